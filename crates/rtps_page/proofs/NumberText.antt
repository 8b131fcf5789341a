-- A number of JSON has no markup, so that its text stays as it is.
use Rattle.std.proofs.Common.{◌≡◌, ◌≤◌, ◌+◌, ◌++◌, ◌∷◌, [], ◌∙◌, ◌==◌, ◌||◌, ℕ, suc, List, Option, None, Some, Bool, true, false, ap, ap₂, append_assoc, append-nil, arith, cond, drop, option_and_then, refl, subst, sym, eqb-true, leb-true}
use Rattle.std.proofs.lemmas.Bool.{and_parts}
use Rattle.std.proofs.lemmas.List.Concat.{flat_map-append}
use Rattle.std.specs.Char.{is_ascii_digit}
use Rattle.std.specs.List.{prefix_len}
use Rattle.json.specs.Print.{IsNumber}
use Rattle.json.specs.Word.{after_digits, after_exponent, after_fraction, after_minus, after_number, after_sign, after_whole}
use Rattle.rtps_page.specs.SafeText as safe_text
use Rattle.rtps_page.proofs.SafeLemmas.{plain_stays}

-- the rest stands in a text behind octets that stay
record Front (escape : ℕ → List ℕ) (text rest : List ℕ) : Type 0 where
  front : List ℕ
  is : text ≡ front ++ rest
  stays : safe_text.safe_text escape front ≡ front

nothing : (escape : ℕ → List ℕ) (text : List ℕ) → Front escape text text
nothing escape text = record { front = []; is = refl; stays = refl }

one : (escape : ℕ → List ℕ) (x : ℕ) (xs : List ℕ) → safe_text.safe_octet escape x ≡ x ∷ [] → Front escape (x ∷ xs) xs
one escape x xs e = record { front = x ∷ []; is = refl; stays = ap (λ l. l ++ []) e }

both : (escape : ℕ → List ℕ) (text middle rest : List ℕ) → Front escape text middle → Front escape middle rest → Front escape text rest
both escape text middle rest f g =
    record {
      front = f.front ++ g.front;
      is = f.is ∙ ap (λ l. f.front ++ l) g.is ∙ sym (append_assoc f.front g.front rest);
      stays = flat_map-append (safe_text.safe_octet escape) f.front g.front ∙ ap₂ (λ (x y : List ℕ). x ++ y) f.stays g.stays;
    }

-- what a part of the grammar leaves, if it leaves something
abbrev Gives : (escape : ℕ → List ℕ) (text : List ℕ) → Option (List ℕ) → Type 0
Gives escape text None = Unit {0}
Gives escape text (Some rest) = Front escape text rest

lift : (escape : ℕ → List ℕ) (text middle : List ℕ) (o : Option (List ℕ)) → Front escape text middle → Gives escape middle o → Gives escape text o
lift escape text middle None f g = tt
lift escape text middle (Some rest) f g = both escape text middle rest f g

later : (escape : ℕ → List ℕ) (text : List ℕ) (f : List ℕ → Option (List ℕ)) → ((middle : List ℕ) → Gives escape middle (f middle)) → (o : Option (List ℕ)) → Gives escape text o → Gives escape text (option_and_then f o)
later escape text f each None h = tt
later escape text f each (Some middle) h = lift escape text middle (f middle) h (each middle)

digit_stays : (escape : ℕ → List ℕ) (x : ℕ) → is_ascii_digit x ≡ true → safe_text.safe_octet escape x ≡ x ∷ []
digit_stays escape x h =
    let low : 48 ≤ x = leb-true 48 x (and_parts _ _ h).0 in
    let high : x ≤ 57 = leb-true x 57 (and_parts _ _ h).1 in
    plain_stays escape x (λ e. omega (arith, low, e)) (λ e. omega (arith, high, e)) (λ e. omega (arith, high, e))

-- one of these octets stays
is_stays : (escape : ℕ → List ℕ) (x n : ℕ) → (n ≡ 38 → ⊥) → (n ≡ 60 → ⊥) → (n ≡ 62 → ⊥) → (x == n) ≡ true → safe_text.safe_octet escape x ≡ x ∷ []
is_stays escape x n a l g e = subst (λ y. safe_text.safe_octet escape y ≡ y ∷ []) (sym (eqb-true x n e)) (plain_stays escape n a l g)

digits_front : (escape : ℕ → List ℕ) (text : List ℕ) → Front escape text (drop (prefix_len is_ascii_digit text) text)
digits_front escape [] = nothing escape []
digits_front escape (x ∷ xs) = go (is_ascii_digit x) refl (digits_front escape xs)
  where
    go : (t : Bool) → t ≡ is_ascii_digit x → Front escape xs (drop (prefix_len is_ascii_digit xs) xs) → Front escape (x ∷ xs) (drop (cond t (1 + prefix_len is_ascii_digit xs) 0) (x ∷ xs))
    go false e rest = nothing escape (x ∷ xs)
    go true e rest =
        let next : suc (prefix_len is_ascii_digit xs) ≡ 1 + prefix_len is_ascii_digit xs = omega arith in
        subst (λ k. Front escape (x ∷ xs) (drop k (x ∷ xs))) next (both escape (x ∷ xs) xs _ (one escape x xs (digit_stays escape x (sym e))) rest)

digits_given : (escape : ℕ → List ℕ) (text : List ℕ) → Gives escape text (after_digits text)
digits_given escape text = go (prefix_len is_ascii_digit text == 0)
  where
    go : (none : Bool) → Gives escape text (cond none None (Some (drop (prefix_len is_ascii_digit text) text)))
    go true = tt
    go false = digits_front escape text

minus_front : (escape : ℕ → List ℕ) (text : List ℕ) → Front escape text (after_minus text)
minus_front escape [] = nothing escape []
minus_front escape (x ∷ xs) = go (x == 45) (is_stays escape x 45 (λ e. omega arith) (λ e. omega arith) (λ e. omega arith))
  where
    go : (t : Bool) → (t ≡ true → safe_text.safe_octet escape x ≡ x ∷ []) → Front escape (x ∷ xs) (cond t xs (x ∷ xs))
    go true h = one escape x xs (h refl)
    go false h = nothing escape (x ∷ xs)

sign_front : (escape : ℕ → List ℕ) (text : List ℕ) → Front escape text (after_sign text)
sign_front escape [] = nothing escape []
sign_front escape (x ∷ xs) = go (x == 45) (x == 43) (is_stays escape x 45 (λ e. omega arith) (λ e. omega arith) (λ e. omega arith)) (is_stays escape x 43 (λ e. omega arith) (λ e. omega arith) (λ e. omega arith))
  where
    go : (t u : Bool) → (t ≡ true → safe_text.safe_octet escape x ≡ x ∷ []) → (u ≡ true → safe_text.safe_octet escape x ≡ x ∷ []) → Front escape (x ∷ xs) (cond (t || u) xs (x ∷ xs))
    go true u h k = one escape x xs (h refl)
    go false true h k = one escape x xs (k refl)
    go false false h k = nothing escape (x ∷ xs)

whole_given : (escape : ℕ → List ℕ) (text : List ℕ) → Gives escape text (after_whole text)
whole_given escape [] = tt
whole_given escape (x ∷ xs) = go (x == 48) (is_stays escape x 48 (λ e. omega arith) (λ e. omega arith) (λ e. omega arith))
  where
    go : (t : Bool) → (t ≡ true → safe_text.safe_octet escape x ≡ x ∷ []) → Gives escape (x ∷ xs) (cond t (Some xs) (after_digits (x ∷ xs)))
    go true h = one escape x xs (h refl)
    go false h = digits_given escape (x ∷ xs)

fraction_given : (escape : ℕ → List ℕ) (text : List ℕ) → Gives escape text (after_fraction text)
fraction_given escape [] = nothing escape []
fraction_given escape (x ∷ xs) = go (x == 46) (is_stays escape x 46 (λ e. omega arith) (λ e. omega arith) (λ e. omega arith))
  where
    go : (t : Bool) → (t ≡ true → safe_text.safe_octet escape x ≡ x ∷ []) → Gives escape (x ∷ xs) (cond t (after_digits xs) (Some (x ∷ xs)))
    go true h = lift escape (x ∷ xs) xs (after_digits xs) (one escape x xs (h refl)) (digits_given escape xs)
    go false h = nothing escape (x ∷ xs)

exponent_given : (escape : ℕ → List ℕ) (text : List ℕ) → Gives escape text (after_exponent text)
exponent_given escape [] = nothing escape []
exponent_given escape (x ∷ xs) = go (x == 101) (x == 69) (is_stays escape x 101 (λ e. omega arith) (λ e. omega arith) (λ e. omega arith)) (is_stays escape x 69 (λ e. omega arith) (λ e. omega arith) (λ e. omega arith))
  where
    signed : safe_text.safe_octet escape x ≡ x ∷ [] → Gives escape (x ∷ xs) (after_digits (after_sign xs))
    signed h =
        lift escape (x ∷ xs) (after_sign xs) (after_digits (after_sign xs)) (both escape (x ∷ xs) xs (after_sign xs) (one escape x xs h) (sign_front escape xs)) (digits_given escape (after_sign xs))

    go : (t u : Bool) → (t ≡ true → safe_text.safe_octet escape x ≡ x ∷ []) → (u ≡ true → safe_text.safe_octet escape x ≡ x ∷ []) → Gives escape (x ∷ xs) (cond (t || u) (after_digits (after_sign xs)) (Some (x ∷ xs)))
    go true u h k = signed (h refl)
    go false true h k = signed (k refl)
    go false false h k = nothing escape (x ∷ xs)

number_given : (escape : ℕ → List ℕ) (text : List ℕ) → Gives escape text (after_number text)
unfolding after_number
number_given escape text =
    later escape text after_exponent (exponent_given escape) (option_and_then after_fraction (after_whole (after_minus text)))
    (later escape text after_fraction (fraction_given escape) (after_whole (after_minus text))
    (lift escape text (after_minus text) (after_whole (after_minus text)) (minus_front escape text) (whole_given escape (after_minus text))))

pub number_stays : (escape : ℕ → List ℕ) (number : List ℕ) → IsNumber number → safe_text.safe_text escape number ≡ number
number_stays escape number h =
    let whole : Front escape number [] = subst (Gives escape number) h (number_given escape number) in
    let is = whole.is ∙ append-nil whole.front in
    ap (safe_text.safe_text escape) is ∙ whole.stays ∙ sym is
