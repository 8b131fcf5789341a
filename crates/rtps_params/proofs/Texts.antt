-- The name that a value spells is the one that the function gives, and where it gives none there is none.
use Rattle.std.proofs.Common.{◌≡◌, ◌≢◌, ℕ, suc, ◌+◌, ◌-◌, ◌<◌, ◌≤◌, ◌↔◌, List, [], ◌∷◌, ◌++◌, length, take, drop, get_or, Option, None, Some, MatchOption, refl, sym, ap, ◌∙◌, arith, inl, inr}
use Rattle.std.proofs.lemmas.Bool.{cases_eq, cases_lt}
use Rattle.std.proofs.lemmas.Bool.Decides.{nat_tests}
use Rattle.std.proofs.lemmas.List.{length-append, length-drop, length-take, take-append-drop, take_at, drop_at, get_or-drop}
use Rattle.std.proofs.Math.Seq.{drop-cons}
use Rattle.std.specs.Borrow.{Bor}
use Rattle.std.specs.Prelude.{IfNone, IfSome, option_copied}
use Rattle.rtps_ids.specs.Octets as octets
use Rattle.rtps_ids.specs.declared.order.Order.{Order}
use Rattle.rtps_params.specs.Values as values

-- a length says the same whatever follows it
text_size-front : (order : Order) (front rest : List ℕ) → 4 ≤ length front → values.text_size order (front ++ rest) ≡ values.text_size order front
unfolding octets.number_of
text_size-front order [] rest room = absurd (omega arith)
text_size-front order (a ∷ []) rest room = absurd (omega arith)
text_size-front order (a ∷ b ∷ []) rest room = absurd (omega arith)
text_size-front order (a ∷ b ∷ c ∷ []) rest room = absurd (omega arith)
text_size-front Order.Big (a ∷ b ∷ c ∷ d ∷ front) rest room = refl
text_size-front Order.Little (a ∷ b ∷ c ∷ d ∷ front) rest room = refl

-- ---- the function, case by case

text_of-short : (order : Order) (value : List ℕ) → length value < 4 → values.text_of order value ≡ None
text_of-short order value short = grind (arith, nat_tests)

text_of-empty : (order : Order) (value : List ℕ) → 4 ≤ length value → values.text_size order value ≡ 0 → values.text_of order value ≡ Some []
text_of-empty order value room empty = grind (arith, nat_tests)

text_of-named : (order : Order) (value : List ℕ) → values.text_size order value ≢ 0 → 4 + values.text_size order value ≤ length value → get_or value (3 + values.text_size order value) 0 ≡ 0 → values.text_of order value ≡ Some (take (values.text_size order value - 1) (drop 4 value))
text_of-named order value named room closed = grind (arith, nat_tests)

text_of-cut : (order : Order) (value : List ℕ) → values.text_size order value ≢ 0 → length value < 4 + values.text_size order value → values.text_of order value ≡ None
text_of-cut order value named short = grind (arith, nat_tests)

text_of-open : (order : Order) (value : List ℕ) → values.text_size order value ≢ 0 → get_or value (3 + values.text_size order value) 0 ≢ 0 → values.text_of order value ≡ None
text_of-open order value named not_closed = grind (arith, nat_tests)

-- ---- what spells a name is read

nul_at : (name rest : List ℕ) → get_or (name ++ 0 ∷ rest) (length name) 0 ≡ 0
nul_at [] rest = refl
nul_at (a ∷ name) rest = nul_at name rest

pub SpellsText-read : (order : Order) (name value : List ℕ) → values.SpellsText order name value → values.text_of order value ≡ Some name
SpellsText-read order name value t =
    let long : 4 ≤ length t.size = omega (arith, t.four_octets) in
    let size-is : values.text_size order value ≡ values.text_size order t.size = ap (values.text_size order) t.whole ∙ text_size-front order t.size t.behind long in
    let length-is : length value ≡ 4 + length t.behind = ap length t.whole ∙ omega (arith, length-append t.size t.behind, t.four_octets) in
    let behind-is : drop 4 value ≡ t.behind = ap (drop 4) t.whole ∙ drop_at t.size t.behind 4 t.four_octets in
    elim t.named [
      | inl n ↦
          let count : values.text_size order value ≡ length name + 1 = size-is ∙ n.0 in
          let behind-length : length t.behind ≡ length name + suc (length n.1.0) = ap length n.1.1 ∙ length-append name (0 ∷ n.1.0) in
          let behind-named : drop 4 value ≡ name ++ 0 ∷ n.1.0 = behind-is ∙ n.1.1 in
          let place : 3 + values.text_size order value ≡ 4 + length name = omega (arith, count) in
          let closed : get_or value (3 + values.text_size order value) 0 ≡ 0 =
          ap (λ (k : ℕ). get_or value k 0) place ∙ sym (get_or-drop 4 value (length name) 0) ∙ ap (λ (l : List ℕ). get_or l (length name) 0) behind-named ∙ nul_at name n.1.0 in
          let front : take (values.text_size order value - 1) (drop 4 value) ≡ name =
          ap (λ (l : List ℕ). take (values.text_size order value - 1) l) behind-named ∙ take_at name (0 ∷ n.1.0) (values.text_size order value - 1) (omega (arith, count)) in
          text_of-named order value (omega (arith, count)) (omega (arith, count, length-is, behind-length)) closed ∙ ap (λ (x : List ℕ). Some x) front
      | inr e ↦ text_of-empty order value (omega arith) (size-is ∙ e.0) ∙ ap (λ (x : List ℕ). Some x) (sym e.1)
    ]

-- ---- what is read spells it

SpellsText-from_named : (order : Order) (value : List ℕ) → values.text_size order value ≢ 0 → 4 + values.text_size order value ≤ length value → get_or value (3 + values.text_size order value) 0 ≡ 0 → values.SpellsText order (take (values.text_size order value - 1) (drop 4 value)) value
SpellsText-from_named order value named room closed =
    let count = values.text_size order value in
    let behind = drop 4 value in
    let name = take (count - 1) behind in
    let four : length (take 4 value) ≡ 4 = omega (arith, length-take 4 value) in
    let size-is : values.text_size order (take 4 value) ≡ count = sym (text_size-front order (take 4 value) (drop 4 value) (omega arith)) ∙ ap (values.text_size order) (take-append-drop 4 value) in
    let nul : get_or behind (count - 1) 0 ≡ 0 = get_or-drop 4 value (count - 1) 0 ∙ ap (λ (k : ℕ). get_or value k 0) (let place : 4 + (count - 1) ≡ 3 + count = omega arith in place) ∙ closed in
    let ignored = drop (suc (count - 1)) behind in
    let inside : count - 1 < length behind = omega (arith, length-drop 4 value) in
    record {
      size = take 4 value;
      behind = behind;
      four_octets = four;
      whole = sym (take-append-drop 4 value);
      named =
          inl (
            size-is ∙ (let counted : count ≡ length name + 1 = omega (arith, length-take (count - 1) behind) in counted),
            (ignored, sym (take-append-drop (count - 1) behind) ∙ ap (λ (l : List ℕ). name ++ l) (drop-cons behind (count - 1) 0 inside ∙ ap (λ (x : ℕ). x ∷ ignored) nul)),
          );
    }

SpellsText-from_empty : (order : Order) (value : List ℕ) → 4 ≤ length value → values.text_size order value ≡ 0 → values.SpellsText order [] value
SpellsText-from_empty order value room empty =
    let four : length (take 4 value) ≡ 4 = omega (arith, length-take 4 value) in
    let size-is : values.text_size order (take 4 value) ≡ values.text_size order value = sym (text_size-front order (take 4 value) (drop 4 value) (omega arith)) ∙ ap (values.text_size order) (take-append-drop 4 value) in
    record { size = take 4 value; behind = drop 4 value; four_octets = four; whole = sym (take-append-drop 4 value); named = inr (size-is ∙ empty, refl) }

-- what octets say whose text is this
abbrev IsTextOf : Order → List ℕ → Option (List ℕ) → Type 0
IsTextOf order value text = MatchOption text ((name : List ℕ) → values.SpellsText order name value → ⊥) (λ name. values.SpellsText order name value)

none-spelled : (order : Order) (value : List ℕ) → values.text_of order value ≡ None → (name : List ℕ) → values.SpellsText order name value → ⊥
none-spelled order value none name t = let read = SpellsText-read order name value t in cc

pub IsTextOf-text_of : (order : Order) (value : List ℕ) → IsTextOf order value (values.text_of order value)
IsTextOf-text_of order value =
    elim (cases_lt (length value) 4) as (λ _. IsTextOf order value (values.text_of order value)) [
      | inl short ↦ let none = text_of-short order value short in rw none (none-spelled order value none)
      | inr room ↦
          elim (cases_eq (values.text_size order value) 0) as (λ _. IsTextOf order value (values.text_of order value)) [
            | inl empty ↦ rw (text_of-empty order value room empty) (SpellsText-from_empty order value room empty)
            | inr named ↦
                elim (cases_lt (length value) (4 + values.text_size order value)) as (λ _. IsTextOf order value (values.text_of order value)) [
                  | inl short ↦ let none = text_of-cut order value named short in rw none (none-spelled order value none)
                  | inr whole ↦
                      elim (cases_eq (get_or value (3 + values.text_size order value) 0) 0) as (λ _. IsTextOf order value (values.text_of order value)) [
                        | inl closed ↦ rw (text_of-named order value named whole closed) (SpellsText-from_named order value named whole closed)
                        | inr not_closed ↦ let none = text_of-open order value named not_closed in rw none (none-spelled order value none)
                      ]
                ]
          ]
    ]

-- ---- what an answer says that is the text

pub spelled-by : (order : Order) (value : List ℕ) (found : Option (Bor (List ℕ))) → option_copied found ≡ values.text_of order value → IfSome found (λ name. values.SpellsText order name.now value)
spelled-by order value None e = tt
spelled-by order value (Some name) e = rw (← e) at (IsTextOf-text_of order value)

pub none_spelled-by : (order : Order) (value : List ℕ) (found : Option (Bor (List ℕ))) → option_copied found ≡ values.text_of order value → IfNone found ((name : List ℕ) → values.SpellsText order name value → ⊥)
none_spelled-by order value None e = rw (← e) at (IsTextOf-text_of order value)
none_spelled-by order value (Some name) e = tt

pub text_is_spelled : (order : Order) (name value : List ℕ) → (values.text_of order value ≡ Some name) ↔ values.SpellsText order name value
text_is_spelled order name value =
    ((λ e. rw e at (IsTextOf-text_of order value)), SpellsText-read order name value)
