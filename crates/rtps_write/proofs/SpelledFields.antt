-- Fields of octets that are read: what was read of them, put back into octets, is what stands there.
use Rattle.std.proofs.Common.{◌≡◌, ◌<◌, ◌≤◌, ◌+◌, ◌*◌, ◌/◌, ◌%◌, ◌^◌, ℕ, ℤ, pos, negsuc, List, [], ◌∷◌, ◌++◌, Bool, true, false, length, take, drop, slice_index, refl, ap, sym, ◌∙◌, arith}
use Rattle.std.specs.Prelude.{◌-ℤ◌, nat_lt, int_le, if◌then◌else◌}
use Rattle.std.specs.Int.RustNames.{unsigned_abs}
use Rattle.std.specs.Int.{cast_unsigned, w64}
use Rattle.std.proofs.lemmas.Bool.Decides.{nat_tests}
use Rattle.std.proofs.lemmas.Int.{ints}
use Rattle.std.proofs.lemmas.List.{drop-drop, drop_more, length-drop, take-append-drop}
use Rattle.rtps_ids.specs.Octets as octets_spec
use Rattle.rtps_ids.specs.declared.order.Order.{Order}
use Rattle.rtps_wire.proofs.Offered.{AreOctets, octets-drop}

-- a field of so many octets stands at a place, and in front of what stands behind it
pub field_stands : (octets : List ℕ) (at width next : ℕ) → at + width ≡ next → drop at octets ≡ take width (drop at octets) ++ drop next octets
field_stands octets at width next is =
    sym (take-append-drop width (drop at octets)) ∙ ap (λ xs. take width (drop at octets) ++ xs) (drop-drop width at octets ∙ ap (λ n. drop n octets) is)

pub octet_stands : (octets : List ℕ) (at next : ℕ) → at + 1 ≡ next → next ≤ length octets → drop at octets ≡ slice_index octets at ∷ drop next octets
octet_stands octets at next is inside =
    drop_more octets at 0 (omega arith) ∙ ap (λ n. slice_index octets at ∷ drop n octets) is

-- ---- numbers

digits_of : (x a b c d : ℕ) → x ≡ a * 16777216 + (b * 65536 + (c * 256 + d)) → a < 256 → b < 256 → c < 256 → d < 256
    → (x / 16777216 % 256 ≡ a) × (x / 65536 % 256 ≡ b) × (x / 256 % 256 ≡ c) × (x % 256 ≡ d)
digits_of x a b c d is p q r s = (omega arith, omega arith, omega arith, omega arith)

four : (a a' b b' c c' d d' : ℕ) → a ≡ a' → b ≡ b' → c ≡ c' → d ≡ d' → ◌≡◌ {A = List ℕ} (a ∷ b ∷ c ∷ d ∷ []) (a' ∷ b' ∷ c' ∷ d' ∷ [])
four a a' b b' c c' d d' p q r s = cc

two : (a a' b b' : ℕ) → a ≡ a' → b ≡ b' → ◌≡◌ {A = List ℕ} (a ∷ b ∷ []) (a' ∷ b' ∷ [])
two a a' b b' p q = cc

word_octets : (order : Order) (octets : List ℕ) → 4 ≤ length octets → AreOctets octets → octets_spec.octets_of order 4 (octets_spec.number_of order 4 octets) ≡ take 4 octets
unfolding octets_spec.octets_of octets_spec.number_of
word_octets Order.Big (a ∷ b ∷ c ∷ d ∷ rest) long small =
    let are = digits_of (octets_spec.number_of Order.Big 4 (a ∷ b ∷ c ∷ d ∷ rest)) a b c d (omega arith) (small 0 0 (omega arith)) (small 1 0 (omega arith)) (small 2 0 (omega arith)) (small 3 0 (omega arith)) in
    four _ a _ b _ c _ d are.0 are.1 are.2 are.3
word_octets Order.Little (a ∷ b ∷ c ∷ d ∷ rest) long small =
    let are = digits_of (octets_spec.number_of Order.Little 4 (a ∷ b ∷ c ∷ d ∷ rest)) d c b a (omega arith) (small 3 0 (omega arith)) (small 2 0 (omega arith)) (small 1 0 (omega arith)) (small 0 0 (omega arith)) in
    four _ a _ b _ c _ d are.3 are.2 are.1 are.0
word_octets order [] long small = absurd (omega arith)
word_octets order (a ∷ []) long small = absurd (omega arith)
word_octets order (a ∷ b ∷ []) long small = absurd (omega arith)
word_octets order (a ∷ b ∷ c ∷ []) long small = absurd (omega arith)

pub half_octets : (order : Order) (octets : List ℕ) → 2 ≤ length octets → AreOctets octets → octets_spec.octets_of order 2 (octets_spec.number_of order 2 octets) ≡ take 2 octets
unfolding octets_spec.octets_of octets_spec.number_of
half_octets Order.Big (a ∷ b ∷ rest) long small =
    let are = digits_of (octets_spec.number_of Order.Big 2 (a ∷ b ∷ rest)) 0 0 a b (omega arith) (omega arith) (omega arith) (small 0 0 (omega arith)) (small 1 0 (omega arith)) in
    two _ a _ b are.2 are.3
half_octets Order.Little (a ∷ b ∷ rest) long small =
    let are = digits_of (octets_spec.number_of Order.Little 2 (a ∷ b ∷ rest)) 0 0 b a (omega arith) (omega arith) (omega arith) (small 1 0 (omega arith)) (small 0 0 (omega arith)) in
    two _ a _ b are.3 are.2
half_octets order [] long small = absurd (omega arith)
half_octets order (a ∷ []) long small = absurd (omega arith)

pub word_below : (order : Order) (octets : List ℕ) → 4 ≤ length octets → AreOctets octets → octets_spec.number_of order 4 octets < 2 ^ 32
unfolding octets_spec.number_of
word_below Order.Big (a ∷ b ∷ c ∷ d ∷ rest) long small =
    let p : a < 256 = small 0 0 (omega arith) in let q : b < 256 = small 1 0 (omega arith) in let r : c < 256 = small 2 0 (omega arith) in let s : d < 256 = small 3 0 (omega arith) in omega arith
word_below Order.Little (a ∷ b ∷ c ∷ d ∷ rest) long small =
    let p : a < 256 = small 0 0 (omega arith) in let q : b < 256 = small 1 0 (omega arith) in let r : c < 256 = small 2 0 (omega arith) in let s : d < 256 = small 3 0 (omega arith) in omega arith
word_below order [] long small = absurd (omega arith)
word_below order (a ∷ []) long small = absurd (omega arith)
word_below order (a ∷ b ∷ []) long small = absurd (omega arith)
word_below order (a ∷ b ∷ c ∷ []) long small = absurd (omega arith)

pub half_below : (order : Order) (octets : List ℕ) → 2 ≤ length octets → AreOctets octets → octets_spec.number_of order 2 octets < 2 ^ 16
unfolding octets_spec.number_of
half_below Order.Big (a ∷ b ∷ rest) long small =
    let p : a < 256 = small 0 0 (omega arith) in let q : b < 256 = small 1 0 (omega arith) in omega arith
half_below Order.Little (a ∷ b ∷ rest) long small =
    let p : a < 256 = small 0 0 (omega arith) in let q : b < 256 = small 1 0 (omega arith) in omega arith
half_below order [] long small = absurd (omega arith)
half_below order (a ∷ []) long small = absurd (omega arith)

-- a word and a half of a word stand at a place
pub word_stands : (order : Order) (octets : List ℕ) (at next : ℕ) → at + 4 ≡ next → next ≤ length octets → AreOctets octets
    → drop at octets ≡ octets_spec.octets_of order 4 (octets_spec.number_of order 4 (drop at octets)) ++ drop next octets
word_stands order octets at next is inside small =
    let there = word_octets order (drop at octets) (omega (arith, length-drop at octets)) (octets-drop octets at small) in
    field_stands octets at 4 next is ∙ ap (λ xs. xs ++ drop next octets) (sym there)

pub half_stands : (order : Order) (octets : List ℕ) (at next : ℕ) → at + 2 ≡ next → next ≤ length octets → AreOctets octets
    → drop at octets ≡ octets_spec.octets_of order 2 (octets_spec.number_of order 2 (drop at octets)) ++ drop next octets
half_stands order octets at next is inside small =
    let there = half_octets order (drop at octets) (omega (arith, length-drop at octets)) (octets-drop octets at small) in
    field_stands octets at 2 next is ∙ ap (λ xs. xs ++ drop next octets) (sym there)

-- ---- sequence numbers

-- a number of 64 bits, read as two's complement
abbrev signed : ℕ → ℤ
signed n = if nat_lt n (2 ^ 63) then pos n else pos n -ℤ pos (2 ^ 64)

-- one that is not negative was spelled by itself
spelled_plain : (n : ℕ) → n < 2 ^ 64 → int_le (pos 0) (signed n) ≡ true → cast_unsigned w64 (signed n) ≡ n
spelled_plain n small low = by (nat_lt n (2 ^ 63)) refl
  where
    by : (t : Bool) → nat_lt n (2 ^ 63) ≡ t → cast_unsigned w64 (signed n) ≡ n
    by true e = rw e (omega arith)
    by false e = absurd (grind (arith, ints, nat_tests))

number_octets : (order : Order) (octets : List ℕ) → 8 ≤ length octets → AreOctets octets → int_le (pos 0) (octets_spec.sequence_number_of order octets) ≡ true
    → octets_spec.sequence_number_octets order (octets_spec.sequence_number_of order octets) ≡ take 8 octets
unfolding octets_spec.sequence_number_octets octets_spec.sequence_number_of
number_octets order octets long small low =
    let high = octets_spec.number_of order 4 octets in
    let rest = octets_spec.number_of order 4 (drop 4 octets) in
    let high_small = word_below order octets (omega arith) small in
    let rest_small = word_below order (drop 4 octets) (omega (arith, length-drop 4 octets)) (octets-drop octets 4 small) in
    let plain : cast_unsigned w64 (signed (high * 2 ^ 32 + rest)) ≡ high * 2 ^ 32 + rest = spelled_plain (high * 2 ^ 32 + rest) (omega arith) low in
    let first : (high * 2 ^ 32 + rest) / 2 ^ 32 ≡ high = omega arith in
    let second : (high * 2 ^ 32 + rest) % 2 ^ 32 ≡ rest = omega arith in
    let front = word_octets order octets (omega arith) small in
    let back = word_octets order (drop 4 octets) (omega (arith, length-drop 4 octets)) (octets-drop octets 4 small) in
    ap (λ n. octets_spec.octets_of order 4 (n / 2 ^ 32) ++ octets_spec.octets_of order 4 (n % 2 ^ 32)) plain
    ∙ (ap (λ n. octets_spec.octets_of order 4 n ++ octets_spec.octets_of order 4 ((high * 2 ^ 32 + rest) % 2 ^ 32)) first
    ∙ (ap (λ n. octets_spec.octets_of order 4 high ++ octets_spec.octets_of order 4 n) second
    ∙ (ap (λ xs. xs ++ octets_spec.octets_of order 4 rest) front ∙ (ap (λ xs. take 4 octets ++ xs) back ∙ halves octets))))
  where
    halves : (octets : List ℕ) → take 4 octets ++ take 4 (drop 4 octets) ≡ take 8 octets
    halves (a ∷ b ∷ c ∷ d ∷ rest) = refl
    halves [] = refl
    halves (a ∷ []) = refl
    halves (a ∷ b ∷ []) = refl
    halves (a ∷ b ∷ c ∷ []) = refl

pub number_stands : (order : Order) (octets : List ℕ) (at next : ℕ) (value : ℤ) → at + 8 ≡ next → next ≤ length octets → AreOctets octets
    → octets_spec.sequence_number_of order (drop at octets) ≡ value → int_le (pos 0) value ≡ true
    → drop at octets ≡ octets_spec.sequence_number_octets order value ++ drop next octets
number_stands order octets at next value is inside small spelled low =
    let there = number_octets order (drop at octets) (omega (arith, length-drop at octets)) (octets-drop octets at small) (ap (int_le (pos 0)) spelled ∙ low) in
    field_stands octets at 8 next is ∙ ap (λ xs. xs ++ drop next octets) (sym there ∙ ap (octets_spec.sequence_number_octets order) spelled)

-- a number that is not negative is its absolute value
pub pos-unsigned_abs : (value : ℤ) → int_le (pos 0) value ≡ true → pos (unsigned_abs value) ≡ value
pos-unsigned_abs (pos n) low = refl
pos-unsigned_abs (negsuc n) low = absurd (grind (arith, ints, nat_tests))
