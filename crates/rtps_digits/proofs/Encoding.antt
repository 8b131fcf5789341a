-- The digits that the vectors' lanes hold.
use Rattle.std.proofs.Common.{◌≡◌, ℕ, zero, suc, ◌+◌, ◌/◌, ◌%◌, ◌<◌, List, [], ◌∷◌, ◌++◌, Bool, true, false, ◌&&◌, cond, eqb, ltb, length, map, replicate, get_or, drop, slice_index, inl, inr, refl, sym, ap, subst, ◌∙◌, arith, bit_and, length-drop, length-take, drop-cons, take, w8, Fits}
use Rattle.std.proofs.lemmas.Bool.{and_parts, cases_lt, eqb-true}
use Rattle.std.proofs.lemmas.List.{append-nil, get_or-append-add, get_or-map, get_or_append_left, length-map, nil_from_length, take_at}
use Rattle.std.proofs.lemmas.Nat.{and_mask}
use Rattle.std.proofs.lemmas.Simd.{Each1-get_or, length-put_chunk, put_chunk_is, put_chunk_whole}
use Rattle.std.specs.Simd.Lanes.{Each1, put_chunk, zip2, sel_l, top}
use Rattle.hex.specs.Hex.{encode_lower, encode_with, lower_digits}
use borrow.Rule.Slice.PartMut.{put_mid}
use Rattle.rtps_digits.specs.Pairs as pairs

-- the lanes of a comparison choose as the comparison does
chosen : (b : Bool) (x y : ℕ) → cond (top 7 (cond b 255 0)) x y ≡ cond b x y
chosen true x y = refl
chosen false x y = refl

-- what low_digits does to a vector
abbrev pub chosen_digits : List ℕ → ℕ → List ℕ
chosen_digits vs n =
    sel_l (map (top 7) (zip2 (λ a b. cond (ltb a b) 255 0) vs (replicate n 10)))
    (zip2 (λ a b. (a + b) % 256) vs (replicate n 48)) (zip2 (λ a b. (a + b) % 256) vs (replicate n 87))

pub chosen_digits_are : (vs : List ℕ) → chosen_digits vs (length vs) ≡ map pairs.half_digit vs
chosen_digits_are [] = refl
chosen_digits_are (v ∷ vs) = λ i. chosen (ltb v 10) ((v + 48) % 256) ((v + 87) % 256) i ∷ chosen_digits_are vs i

-- ---- a half's digit against the table's

abbrev all_agree : ℕ → Bool
all_agree zero = true
all_agree (suc n) = eqb (pairs.half_digit n) (slice_index lower_digits n) && all_agree n

all_agree-at : (n k : ℕ) → all_agree n ≡ true → k < n → pairs.half_digit k ≡ slice_index lower_digits k
all_agree-at zero k h lt = absurd (omega arith)
all_agree-at (suc n) k h lt =
    let parts = and_parts (eqb (pairs.half_digit n) (slice_index lower_digits n)) (all_agree n) h in
    elim (cases_lt k n) [
      | inl less ↦ all_agree-at n k parts.1 less
      | inr top ↦
          let e : k ≡ n = omega arith in
          rw e (eqb-true _ _ parts.0)
    ]

digit_is : (d : ℕ) → d < 16 → pairs.half_digit d ≡ slice_index lower_digits d
digit_is d lt = all_agree-at 16 d refl lt

-- ---- the digits in turn

abbrev pub first_digit : ℕ → ℕ
first_digit octet = pairs.half_digit (octet / 16)

abbrev pub second_digit : ℕ → ℕ
second_digit octet = pairs.half_digit (bit_and octet 15)

-- n pairs from place i on: a lane, and the one 16 behind it
abbrev pub woven : List ℕ → ℕ → ℕ → List ℕ
woven lanes zero i = []
woven lanes (suc n) i = get_or lanes i 0 ∷ get_or lanes (16 + i) 0 ∷ woven lanes n (suc i)

abbrev AreDigitsAt : List ℕ → List ℕ → ℕ → Type 0
AreDigitsAt lanes octets k =
    (get_or lanes k 0 ≡ slice_index lower_digits (get_or octets k 0 / 16))
    × (get_or lanes (16 + k) 0 ≡ slice_index lower_digits (get_or octets k 0 % 16))

woven_is : (lanes octets : List ℕ) (n i : ℕ) → i + n ≡ length octets → ((k : ℕ) → k < length octets → AreDigitsAt lanes octets k)
    → woven lanes n i ≡ encode_lower (drop i octets)
unfolding encode_with
woven_is lanes octets zero i long are =
    let none : drop i octets ≡ [] = nil_from_length (drop i octets) (omega (arith, length-drop i octets)) in
    sym (ap encode_lower none)
woven_is lanes octets (suc n) i long are =
    let less : i < length octets = omega arith in
    let here = are i less in
    (λ j. here.0 j ∷ here.1 j ∷ woven_is lanes octets n (suc i) (omega arith) are j)
    ∙ sym (ap encode_lower (drop-cons octets i 0 less))

pub encoded : (octets : List ℕ) → length octets ≡ 16 → Each1 (Fits w8) octets
    → woven (map first_digit octets ++ map second_digit octets) 16 0 ≡ encode_lower octets
encoded octets long fits =
    let first = map first_digit octets in
    let second = map second_digit octets in
    let size : length first ≡ 16 = length-map octets first_digit ∙ long in
    woven_is (first ++ second) octets 16 0 (sym long) (λ k less.
    let octet = get_or octets k 0 in
    let small : octet < 256 = (Each1-get_or (Fits w8) octets k 0 less fits).fits in (
      get_or_append_left first second 0 k (omega arith) ∙ get_or-map first_digit octets k 0 0 less ∙ digit_is (octet / 16) (omega arith),
      subst (λ n. get_or (first ++ second) (n + k) 0 ≡ get_or second k 0) size (get_or-append-add first second k 0)
          ∙ get_or-map second_digit octets k 0 0 less ∙ ap pairs.half_digit (and_mask octet 4) ∙ digit_is (octet % 16) (omega arith),
    ))

-- ---- two vectors, stored one behind the other

pub stored : (zeros front back : List ℕ) → length zeros ≡ 32 → length front ≡ 16 → length back ≡ 16
    → put_mid 16 16 (put_chunk 0 zeros front) (put_chunk 0 (take 16 (drop 16 (put_chunk 0 zeros front))) back) ≡ front ++ back
stored zeros front back room size-front size-back =
    let whole : List ℕ = put_chunk 0 zeros front in
    let size : length whole ≡ 32 = length-put_chunk 0 zeros front ∙ room in
    let start : take 16 whole ≡ front =
    ap (take 16) (put_chunk_is 0 zeros front (omega arith)) ∙ take_at front (drop (length front) zeros) 16 size-front in
    let rest : put_chunk 0 (take 16 (drop 16 whole)) back ≡ back =
    put_chunk_whole (take 16 (drop 16 whole)) back (omega (arith, length-take 16 (drop 16 whole), length-drop 16 whole)) in
    let none : drop 16 (drop 16 whole) ≡ [] = nil_from_length (drop 16 (drop 16 whole)) (omega (arith, length-drop 16 (drop 16 whole), length-drop 16 whole)) in
    (λ i. start i ++ (rest i ++ none i)) ∙ ap (λ more. front ++ more) (append-nil back)
