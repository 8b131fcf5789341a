-- What is written in place of markup has none, and a text of other octets stays as it is.
use Rattle.std.proofs.Common.{◌≡◌, ◌<◌, ◌≤◌, ◌++◌, ◌∷◌, [], ◌∙◌, ℕ, suc, List, IsUtf8, ap, ap₂, append-nil, arith, get_or, inl, inr, length, refl, subst, sym, true, ◌+◌, ◌-◌, zero, drop, drop-drop, if◌then◌else◌, slice_index, take, ◌||◌, ◌⊎◌, Bool, false, length-drop, ne_eqb}
use Rattle.std.proofs.lemmas.Bool.{and_parts, cases_lt, cases_eq, false_from_ne_true}
use Rattle.std.proofs.lemmas.List.Concat.{flat_map-append}
use Rattle.std.proofs.lemmas.Str.{IsUtf8-append, IsUtf8-encode, IsUtf8-nil, encode_ascii, inside_one}
use lib.Utf8.{encode, encodes, scalar, scalars}
use Rattle.rtps_page.specs.SafeText as safe_text
use Rattle.std.proofs.lemmas.List.Folds.{list_any-append}

-- an octet that is no markup stays
pub plain_stays : (escape : ℕ → List ℕ) (octet : ℕ) → (octet ≡ 38 → ⊥) → (octet ≡ 60 → ⊥) → (octet ≡ 62 → ⊥) → safe_text.safe_octet escape octet ≡ octet ∷ []
unfolding safe_text.safe_octet
plain_stays escape octet a l g = rw (ne_eqb octet 38 a, ne_eqb octet 60 l, ne_eqb octet 62 g) refl

pub is_plain : (octet : ℕ) → (octet ≡ 38 → ⊥) → (octet ≡ 60 → ⊥) → (octet ≡ 62 → ⊥) → safe_text.is_markup octet ≡ false
is_plain octet a l g = rw (ne_eqb octet 38 a, ne_eqb octet 60 l, ne_eqb octet 62 g) refl

-- an octet is one of the three, or none of them
pub data Marks (octet : ℕ) : Type 0 where
  ampersand : octet ≡ 38 → Marks octet
  less : octet ≡ 60 → Marks octet
  greater : octet ≡ 62 → Marks octet
  plain : (octet ≡ 38 → ⊥) → (octet ≡ 60 → ⊥) → (octet ≡ 62 → ⊥) → Marks octet

pub marks : (octet : ℕ) → Marks octet
marks octet = go (cases_eq octet 38) (cases_eq octet 60) (cases_eq octet 62)
  where
    go : (octet ≡ 38) ⊎ (octet ≡ 38 → ⊥) → (octet ≡ 60) ⊎ (octet ≡ 60 → ⊥) → (octet ≡ 62) ⊎ (octet ≡ 62 → ⊥) → Marks octet
    go (inl a) l g = ampersand a
    go (inr a) (inl l) g = less l
    go (inr a) (inr l) (inl g) = greater g
    go (inr a) (inr l) (inr g) = plain a l g

-- each of the three escapes is so
pub record Each (P : List ℕ → Type 0) (escape : ℕ → List ℕ) : Type 0 where
  pub of_ampersand : P (escape 38)
  pub of_less : P (escape 60)
  pub of_greater : P (escape 62)

octet_is_safe : (escape : ℕ → List ℕ) (octet : ℕ) → Each safe_text.IsSafe escape → Marks octet → safe_text.IsSafe (safe_text.safe_octet escape octet)
unfolding safe_text.safe_octet
octet_is_safe escape octet each (ampersand e) = subst (λ o. safe_text.IsSafe (safe_text.safe_octet escape o)) (sym e) each.of_ampersand
octet_is_safe escape octet each (less e) = subst (λ o. safe_text.IsSafe (safe_text.safe_octet escape o)) (sym e) each.of_less
octet_is_safe escape octet each (greater e) = subst (λ o. safe_text.IsSafe (safe_text.safe_octet escape o)) (sym e) each.of_greater
octet_is_safe escape octet each (plain a l g) = subst safe_text.IsSafe (sym (plain_stays escape octet a l g)) (ap (λ b. b || false) (is_plain octet a l g))

-- whatever the text is
pub text_is_safe : (escape : ℕ → List ℕ) (text : List ℕ) → Each safe_text.IsSafe escape → safe_text.IsSafe (safe_text.safe_text escape text)
text_is_safe escape [] each = refl
text_is_safe escape (octet ∷ text) each =
    list_any-append safe_text.is_markup (safe_text.safe_octet escape octet) (safe_text.safe_text escape text)
    ∙ ap₂ (λ (a b : Bool). a || b) (octet_is_safe escape octet each (marks octet)) (text_is_safe escape text each)

-- in HTML, a browser shows the text
octet_is_shown : (octet : ℕ) (text html : List ℕ) → Marks octet → safe_text.IsShownAs text html → safe_text.IsShownAs (octet ∷ text) (safe_text.safe_octet safe_text.in_html octet ++ html)
unfolding safe_text.safe_octet
octet_is_shown octet text html (ampersand e) rest = subst (λ o. safe_text.IsShownAs (o ∷ text) (safe_text.safe_octet safe_text.in_html o ++ html)) (sym e) (safe_text.IsShownAs.ampersand rest)
octet_is_shown octet text html (less e) rest = subst (λ o. safe_text.IsShownAs (o ∷ text) (safe_text.safe_octet safe_text.in_html o ++ html)) (sym e) (safe_text.IsShownAs.less rest)
octet_is_shown octet text html (greater e) rest = subst (λ o. safe_text.IsShownAs (o ∷ text) (safe_text.safe_octet safe_text.in_html o ++ html)) (sym e) (safe_text.IsShownAs.greater rest)
octet_is_shown octet text html (plain a l g) rest =
    subst (λ (o : List ℕ). safe_text.IsShownAs (octet ∷ text) (o ++ html)) (sym (plain_stays safe_text.in_html octet a l g)) (safe_text.IsShownAs.plain octet (is_plain octet a l g) rest)

pub text_is_shown : (text : List ℕ) → safe_text.IsShownAs text (safe_text.safe_text safe_text.in_html text)
text_is_shown [] = safe_text.IsShownAs.nothing
text_is_shown (octet ∷ text) = octet_is_shown octet text (safe_text.safe_text safe_text.in_html text) (marks octet) (text_is_shown text)

-- a run of octets that are no markup stays
octet_stays : (escape : ℕ → List ℕ) (octet : ℕ) → safe_text.is_markup octet ≡ false → safe_text.safe_octet escape octet ≡ octet ∷ []
unfolding safe_text.safe_octet
octet_stays escape octet h = ap (λ b. if b then escape octet else octet ∷ []) h

pub run_stays : (escape : ℕ → List ℕ) (text : List ℕ) (n : ℕ) → ((k : ℕ) → k < n → safe_text.is_markup (get_or text k 0) ≡ false) → n ≤ length text
    → safe_text.safe_text escape text ≡ take n text ++ safe_text.safe_text escape (drop n text)
run_stays escape text zero h within = refl
run_stays escape [] (suc n) h within = absurd (omega arith)
run_stays escape (octet ∷ text) (suc n) h within =
    let rest = run_stays escape text n (λ k below. h (suc k) (omega arith)) (omega arith) in
    ap₂ (λ (x y : List ℕ). x ++ y) (octet_stays escape octet (h 0 (omega arith))) rest

-- the run from a place on
pub run_from : (escape : ℕ → List ℕ) (text : List ℕ) (start n : ℕ) → ((k : ℕ) → 0 ≤ k → k < n → safe_text.is_markup (slice_index (drop start text) k) ≡ true → ⊥) → start + n ≤ length text
    → safe_text.safe_text escape (drop start text) ≡ take (start + n - start) (drop start text) ++ safe_text.safe_text escape (drop (start + n) text)
run_from escape text start n h within =
    let far : n ≤ length (drop start text) = omega (arith, length-drop start text) in
    let size : n ≡ start + n - start = omega arith in
    run_stays escape (drop start text) n (λ k below. false_from_ne_true (safe_text.is_markup (slice_index (drop start text) k)) (h k (omega arith) below)) far
    ∙ ap₂ (λ m l. take m (drop start text) ++ safe_text.safe_text escape l) size (drop-drop n start text)

high_stays : (escape : ℕ → List ℕ) (xs : List ℕ) → ((k : ℕ) → k < length xs → 128 ≤ get_or xs k 0) → safe_text.safe_text escape xs ≡ xs
high_stays escape [] h = refl
high_stays escape (x ∷ xs) h =
    let high : 128 ≤ x = h 0 (omega arith) in
    ap₂ (λ (a b : List ℕ). a ++ b) (plain_stays escape x (λ e. omega (arith, high, e)) (λ e. omega (arith, high, e)) (λ e. omega (arith, high, e))) (high_stays escape xs (λ k below. h (suc k) (omega arith)))

low_char : (escape : ℕ → List ℕ) (c : ℕ) → Each IsUtf8 escape → Marks c → scalar c ≡ true → c < 128 → IsUtf8 (safe_text.safe_octet escape c)
unfolding safe_text.safe_octet
low_char escape c u (ampersand e) ok small = subst (λ o. IsUtf8 (safe_text.safe_octet escape o)) (sym e) u.of_ampersand
low_char escape c u (less e) ok small = subst (λ o. IsUtf8 (safe_text.safe_octet escape o)) (sym e) u.of_less
low_char escape c u (greater e) ok small = subst (λ o. IsUtf8 (safe_text.safe_octet escape o)) (sym e) u.of_greater
low_char escape c u (plain a l g) ok small = subst IsUtf8 (encode_ascii c small ∙ sym (plain_stays escape c a l g)) (IsUtf8-encode c ok)

one_char : (escape : ℕ → List ℕ) (c : ℕ) → Each IsUtf8 escape → scalar c ≡ true → IsUtf8 (safe_text.safe_text escape (encode c))
one_char escape c u ok = elim (cases_lt c 128) [
  | inl small ↦ subst IsUtf8 (sym (ap (safe_text.safe_text escape) (encode_ascii c small) ∙ append-nil (safe_text.safe_octet escape c))) (low_char escape c u (marks c) ok small)
  | inr big ↦
      let high : (k : ℕ) → k < length (encode c) → 128 ≤ get_or (encode c) k 0 = λ k below. elim (cases_lt (get_or (encode c) k 0) 128) [
        | inl low ↦ absurd (omega (arith, inside_one c [] (encode c) k (sym (append-nil _)) below low))
        | inr h ↦ h
      ] in
      subst IsUtf8 (sym (high_stays escape (encode c) high)) (IsUtf8-encode c ok)
]

all_chars : (escape : ℕ → List ℕ) (cs : List ℕ) → Each IsUtf8 escape → scalars cs ≡ true → IsUtf8 (safe_text.safe_text escape (encodes cs))
all_chars escape [] u e = IsUtf8-nil
all_chars escape (c ∷ cs) u e =
    let p = and_parts _ _ e in
    subst IsUtf8 (sym (flat_map-append (safe_text.safe_octet escape) (encode c) (encodes cs))) (IsUtf8-append _ _ (one_char escape c u p.0) (all_chars escape cs u p.1))

pub safe_is_utf8 : (escape : ℕ → List ℕ) (text : List ℕ) → Each IsUtf8 escape → IsUtf8 text → IsUtf8 (safe_text.safe_text escape text)
safe_is_utf8 escape text u t = subst (λ l. IsUtf8 (safe_text.safe_text escape l)) t.1.1 (all_chars escape t.0 u t.1.0)
