-- Octets compare as the numbers that they spell, the highest first.
use Rattle.std.proofs.Common.{Fits, w8, take, drop, ◌≡◌, ℕ, ◌+◌, ◌*◌, ◌^◌, ◌<◌, suc, List, [], ◌∷◌, ◌++◌, length, get_or, refl, sym, ap, ◌∙◌, arith, inl, inr}
use Rattle.std.proofs.lemmas.List.{length-drop, length-take-le, take-append-drop}
use Rattle.std.specs.Cmp.{nat_cmp_is}
use Rattle.std.specs.Cmp.Lexicographic.{slice_cmp}
use Rattle.std.specs.Ordering.{nat_cmp, ordering_then}
use Rattle.std.specs.declared.cmp.Ordering.{Ordering}
use Rattle.std.specs.declared.cmp.Ordering.TheVariants.{Less, Equal, Greater}
use Rattle.std.proofs.lemmas.Bool.{cases_lt}
use Rattle.byteorder.specs.Endian.{big_number}

-- the number that octets spell behind n, the highest first
abbrev spelled : ℕ → List ℕ → ℕ
spelled n [] = n
spelled n (x ∷ xs) = spelled (n * 256 + x) xs

abbrev AreOctets : List ℕ → Type 0
AreOctets xs = (i : ℕ) → Fits w8 (get_or xs i 0)

later : (x : ℕ) (xs : List ℕ) → AreOctets (x ∷ xs) → AreOctets xs
later x xs octets i = octets (suc i)

-- the first difference decides
below : (m n : ℕ) (xs ys : List ℕ) → length xs ≡ length ys → AreOctets xs → AreOctets ys → m < n → spelled m xs < spelled n ys
below m n [] [] same one other lt = lt
below m n [] (y ∷ ys) same one other lt = absurd (omega (arith, same))
below m n (x ∷ xs) [] same one other lt = absurd (omega (arith, same))
below m n (x ∷ xs) (y ∷ ys) same one other lt =
    let small : x < 256 = omega (arith, one 0) in
    below (m * 256 + x) (n * 256 + y) xs ys (omega (arith, same)) (later x xs one) (later y ys other) (omega (arith, small, lt))

less : (a b : ℕ) → a < b → nat_cmp a b ≡ Less
less a b lt = sym (nat_cmp_is a b Less lt)

greater : (a b : ℕ) → b < a → nat_cmp a b ≡ Greater
greater a b lt = sym (nat_cmp_is a b Greater lt)

spelled_order : (n : ℕ) (xs ys : List ℕ) → length xs ≡ length ys → AreOctets xs → AreOctets ys → nat_cmp (spelled n xs) (spelled n ys) ≡ slice_cmp nat_cmp xs ys
spelled_order n [] [] same one other = sym (nat_cmp_is n n Equal refl)
spelled_order n [] (y ∷ ys) same one other = absurd (omega (arith, same))
spelled_order n (x ∷ xs) [] same one other = absurd (omega (arith, same))
spelled_order n (x ∷ xs) (y ∷ ys) same one other = elim (cases_lt x y) [
  | inl lt ↦
      less _ _ (below (n * 256 + x) (n * 256 + y) xs ys rest (later x xs one) (later y ys other) (omega (arith, lt)))
      ∙ ap (λ o. ordering_then o (slice_cmp nat_cmp xs ys)) (sym (less x y lt))
  | inr not ↦ elim (cases_lt y x) [
    | inl gt ↦
        greater _ _ (below (n * 256 + y) (n * 256 + x) ys xs (sym rest) (later y ys other) (later x xs one) (omega (arith, gt)))
        ∙ ap (λ o. ordering_then o (slice_cmp nat_cmp xs ys)) (sym (greater x y gt))
    | inr not' ↦
        let equal : y ≡ x = omega (arith, not, not') in
        ap (λ k. nat_cmp (spelled (n * 256 + x) xs) (spelled (n * 256 + k) ys)) equal
        ∙ spelled_order (n * 256 + x) xs ys rest (later x xs one) (later y ys other)
        ∙ ap (λ o. ordering_then o (slice_cmp nat_cmp xs ys)) (nat_cmp_is x y Equal (sym equal))
  ]
]
  where
    rest : length xs ≡ length ys
    rest = omega (arith, same)

-- four octets and eight, as they are read
four : (xs : List ℕ) → length xs ≡ 4 → big_number 4 xs ≡ spelled 0 xs
four [] e = absurd (omega (arith, e))
four (a ∷ []) e = absurd (omega (arith, e))
four (a ∷ b ∷ []) e = absurd (omega (arith, e))
four (a ∷ b ∷ c ∷ []) e = absurd (omega (arith, e))
four (a ∷ b ∷ c ∷ d ∷ []) e = omega arith
four (a ∷ b ∷ c ∷ d ∷ x ∷ xs) e = absurd (omega (arith, e))

eight : (xs : List ℕ) → length xs ≡ 8 → big_number 8 xs ≡ spelled 0 xs
eight [] e = absurd (omega (arith, e))
eight (a ∷ []) e = absurd (omega (arith, e))
eight (a ∷ b ∷ []) e = absurd (omega (arith, e))
eight (a ∷ b ∷ c ∷ []) e = absurd (omega (arith, e))
eight (a ∷ b ∷ c ∷ d ∷ []) e = absurd (omega (arith, e))
eight (a ∷ b ∷ c ∷ d ∷ f ∷ []) e = absurd (omega (arith, e))
eight (a ∷ b ∷ c ∷ d ∷ f ∷ g ∷ []) e = absurd (omega (arith, e))
eight (a ∷ b ∷ c ∷ d ∷ f ∷ g ∷ h ∷ []) e = absurd (omega (arith, e))
eight (a ∷ b ∷ c ∷ d ∷ f ∷ g ∷ h ∷ i ∷ []) e = omega arith
eight (a ∷ b ∷ c ∷ d ∷ f ∷ g ∷ h ∷ i ∷ x ∷ xs) e = absurd (omega (arith, e))

pub four_order : (xs ys : List ℕ) → length xs ≡ 4 → length ys ≡ 4 → AreOctets xs → AreOctets ys → nat_cmp (big_number 4 xs) (big_number 4 ys) ≡ slice_cmp nat_cmp xs ys
four_order xs ys one other octets others =
    ap (λ n. nat_cmp n (big_number 4 ys)) (four xs one) ∙ ap (nat_cmp (spelled 0 xs)) (four ys other) ∙ spelled_order 0 xs ys (one ∙ sym other) octets others

pub eight_order : (xs ys : List ℕ) → length xs ≡ 8 → length ys ≡ 8 → AreOctets xs → AreOctets ys → nat_cmp (big_number 8 xs) (big_number 8 ys) ≡ slice_cmp nat_cmp xs ys
eight_order xs ys one other octets others =
    ap (λ n. nat_cmp n (big_number 8 ys)) (eight xs one) ∙ ap (nat_cmp (spelled 0 xs)) (eight ys other) ∙ spelled_order 0 xs ys (one ∙ sym other) octets others

then_assoc : (a b c : Ordering) → ordering_then (ordering_then a b) c ≡ ordering_then a (ordering_then b c)
then_assoc Less b c = refl
then_assoc Equal b c = refl
then_assoc Greater b c = refl

-- lists in two parts
pub slice_cmp-append : (xs ys more others : List ℕ) → length xs ≡ length ys
    → slice_cmp nat_cmp (xs ++ more) (ys ++ others) ≡ ordering_then (slice_cmp nat_cmp xs ys) (slice_cmp nat_cmp more others)
slice_cmp-append [] [] more others e = refl
slice_cmp-append [] (y ∷ ys) more others e = absurd (omega (arith, e))
slice_cmp-append (x ∷ xs) [] more others e = absurd (omega (arith, e))
slice_cmp-append (x ∷ xs) (y ∷ ys) more others e =
    ap (ordering_then (nat_cmp x y)) (slice_cmp-append xs ys more others (omega (arith, e))) ∙ sym (then_assoc (nat_cmp x y) (slice_cmp nat_cmp xs ys) (slice_cmp nat_cmp more others))

-- numbers and the octets behind them
spelled_then : (m n : ℕ) (xs ys : List ℕ) → length xs ≡ length ys → AreOctets xs → AreOctets ys
    → nat_cmp (spelled m xs) (spelled n ys) ≡ ordering_then (nat_cmp m n) (slice_cmp nat_cmp xs ys)
spelled_then m n xs ys same one other = elim (cases_lt m n) [
  | inl lt ↦
      less _ _ (below m n xs ys same one other lt) ∙ ap (λ o. ordering_then o (slice_cmp nat_cmp xs ys)) (sym (less m n lt))
  | inr not ↦ elim (cases_lt n m) [
    | inl gt ↦
        greater _ _ (below n m ys xs (sym same) other one gt)
        ∙ ap (λ o. ordering_then o (slice_cmp nat_cmp xs ys)) (sym (greater m n gt))
    | inr not' ↦
        let equal : n ≡ m = omega (arith, not, not') in
        ap (λ k. nat_cmp (spelled m xs) (spelled k ys)) equal
        ∙ spelled_order m xs ys same one other
        ∙ ap (λ o. ordering_then o (slice_cmp nat_cmp xs ys)) (nat_cmp_is m n Equal (sym equal))
  ]
]

four_behind : (n : ℕ) (xs : List ℕ) → length xs ≡ 4 → spelled n xs ≡ n * 2 ^ 32 + big_number 4 xs
four_behind n [] e = absurd (omega (arith, e))
four_behind n (a ∷ []) e = absurd (omega (arith, e))
four_behind n (a ∷ b ∷ []) e = absurd (omega (arith, e))
four_behind n (a ∷ b ∷ c ∷ []) e = absurd (omega (arith, e))
four_behind n (a ∷ b ∷ c ∷ d ∷ []) e = omega arith
four_behind n (a ∷ b ∷ c ∷ d ∷ x ∷ xs) e = absurd (omega (arith, e))

-- the number that twelve octets and four more spell
abbrev pub identity_number : List ℕ → List ℕ → ℕ
identity_number prefix entity = big_number 8 (take 8 prefix) * 2 ^ 64 + big_number 4 (drop 8 prefix) * 2 ^ 32 + big_number 4 entity

spelled_append : (n : ℕ) (xs ys : List ℕ) → spelled n (xs ++ ys) ≡ spelled (spelled n xs) ys
spelled_append n [] ys = refl
spelled_append n (x ∷ xs) ys = spelled_append (n * 256 + x) xs ys

identity_spelled : (prefix entity : List ℕ) → length prefix ≡ 12 → length entity ≡ 4
    → identity_number prefix entity ≡ spelled (spelled 0 prefix) entity
identity_spelled prefix entity twelve four_more =
    let front : length (take 8 prefix) ≡ 8 = length-take-le 8 prefix (omega (arith, twelve)) in
    let back : length (drop 8 prefix) ≡ 4 = omega (arith, length-drop 8 prefix, twelve) in
    let whole : spelled 0 prefix ≡ big_number 8 (take 8 prefix) * 2 ^ 32 + big_number 4 (drop 8 prefix) =
    ap (spelled 0) (sym (take-append-drop 8 prefix))
    ∙ spelled_append 0 (take 8 prefix) (drop 8 prefix)
    ∙ four_behind (spelled 0 (take 8 prefix)) (drop 8 prefix) back
    ∙ ap (λ n. n * 2 ^ 32 + big_number 4 (drop 8 prefix)) (sym (eight (take 8 prefix) front)) in
    omega (arith, whole, four_behind (spelled 0 prefix) entity four_more)

-- twelve octets and four compare as the numbers that they spell
pub identity_order : (prefix other : List ℕ) (entity other_entity : List ℕ)
    → length prefix ≡ 12 → length other ≡ 12 → length entity ≡ 4 → length other_entity ≡ 4
    → AreOctets prefix → AreOctets other → AreOctets entity → AreOctets other_entity
    → nat_cmp (identity_number prefix entity) (identity_number other other_entity)
    ≡ ordering_then (slice_cmp nat_cmp prefix other) (slice_cmp nat_cmp entity other_entity)
identity_order prefix other entity other_entity a b c d o p q r =
    ap (λ n. nat_cmp n (identity_number other other_entity)) (identity_spelled prefix entity a c)
    ∙ ap (nat_cmp (spelled (spelled 0 prefix) entity)) (identity_spelled other other_entity b d)
    ∙ spelled_then (spelled 0 prefix) (spelled 0 other) entity other_entity (c ∙ sym d) q r
    ∙ ap (λ order. ordering_then order (slice_cmp nat_cmp entity other_entity)) (spelled_order 0 prefix other (a ∙ sym b) o p)

-- the order of twelve octets, by the first eight and then by the last four
pub prefix_order : (xs ys : List ℕ) → length xs ≡ 12 → length ys ≡ 12
    → ordering_then (slice_cmp nat_cmp (take 8 xs) (take 8 ys)) (slice_cmp nat_cmp (drop 8 xs) (drop 8 ys)) ≡ slice_cmp nat_cmp xs ys
prefix_order xs ys one other =
    let same : length (take 8 xs) ≡ length (take 8 ys) = length-take-le 8 xs (omega arith) ∙ sym (length-take-le 8 ys (omega arith)) in
    sym (slice_cmp-append (take 8 xs) (take 8 ys) (drop 8 xs) (drop 8 ys) same)
    ∙ (ap (λ l. slice_cmp nat_cmp l (take 8 ys ++ drop 8 ys)) (take-append-drop 8 xs) ∙ ap (slice_cmp nat_cmp xs) (take-append-drop 8 ys))
