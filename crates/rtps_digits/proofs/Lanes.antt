-- What the vectors' lanes hold.
use Rattle.std.proofs.Common.{◌≡◌, ℕ, zero, suc, ◌+◌, ◌-◌, ◌*◌, ◌%◌, ◌^◌, ◌<◌, List, [], ◌∷◌, Bool, true, false, ◌&&◌, not, cond, eqb, ltb, leb, length, map, replicate, inl, inr, refl, ap, ◌∙◌, arith, bit_and, w8}
use Rattle.std.proofs.lemmas.Bool.{and_parts, cases_lt, eqb-true, ltb-true}
use Rattle.std.proofs.lemmas.List.{length-map}
use Rattle.std.proofs.lemmas.Simd.{mask_l-mod, tops_compared, zip2_splat_left}
use Rattle.std.specs.List.{list_all}
use Rattle.std.specs.Simd.Lanes.{Each1, zip2, sel_l, mask_l, top}
use Rattle.hex.specs.Hex.{is_hex_digit}
use Rattle.rtps_digits.specs.Pairs as pairs

-- the lanes of a comparison choose as the comparison does
chosen : (b : Bool) (x y : ℕ) → cond (top 7 (cond b 255 0)) x y ≡ cond b x y
chosen true x y = refl
chosen false x y = refl

-- what lane_values does to a vector
abbrev pub minus : ℕ → ℕ → ℕ
minus a b = (a + (256 - b)) % 256

abbrev pub plus : ℕ → ℕ → ℕ
plus a b = (a + b) % 256

abbrev pub below : ℕ → ℕ → ℕ
below a b = cond (ltb a b) 255 0

abbrev pub computed : List ℕ → ℕ → List ℕ
computed vs n =
    let decimal = zip2 minus vs (replicate n 48) in
    let letter = zip2 minus (zip2 bit_and vs (replicate n 223)) (replicate n 65) in
    let capped = sel_l (map (top 7) (zip2 below letter (replicate n 6))) letter (replicate n 6) in
    sel_l (map (top 7) (zip2 below decimal (replicate n 10))) decimal (zip2 plus capped (replicate n 10))

lane_of : (d l : ℕ)
    → cond (top 7 (below d 10)) d (plus (cond (top 7 (below l 6)) l 6) 10)
    ≡ cond (ltb d 10) d ((cond (ltb l 6) l 6 + 10) % 256)
lane_of d l =
    chosen (ltb d 10) d _ ∙ ap (λ (x : ℕ). cond (ltb d 10) d ((x + 10) % 256)) (chosen (ltb l 6) l 6)

pub computed_is : (vs : List ℕ) → computed vs (length vs) ≡ map pairs.lane_value vs
computed_is [] = refl
computed_is (v ∷ vs) = λ i. lane_of ((v + 208) % 256) ((bit_and v 223 + 191) % 256) i ∷ computed_is vs i

-- ---- a lane's value against the digit's

abbrev agrees : ℕ → Bool
agrees c = cond (is_hex_digit c) (eqb (pairs.lane_value c) (pairs.digit_value c) && pairs.is_low (pairs.lane_value c)) (not (pairs.is_low (pairs.lane_value c)))

abbrev all_agree : ℕ → Bool
all_agree zero = true
all_agree (suc n) = agrees n && all_agree n

all_agree-at : (n k : ℕ) → all_agree n ≡ true → k < n → agrees k ≡ true
all_agree-at zero k h lt = absurd (omega arith)
all_agree-at (suc n) k h lt =
    let parts = and_parts (agrees n) (all_agree n) h in
    elim (cases_lt k n) [
      | inl less ↦ all_agree-at n k parts.1 less
      | inr top ↦
          let e : k ≡ n = omega arith in
          rw e parts.0
    ]

byte_agrees : (c : ℕ) → c < 256 → agrees c ≡ true
byte_agrees c lt = all_agree-at 256 c refl lt

low_parts : (h e low : Bool) → cond h (e && low) (not low) ≡ true → low ≡ h
low_parts true e low is = (and_parts e low is).1
low_parts false e true is = cc is
low_parts false e false is = refl

same_parts : (h e low : Bool) → cond h (e && low) (not low) ≡ true → h ≡ true → (e ≡ true) × (low ≡ true)
same_parts true e low is t = and_parts e low is
same_parts false e low is t = cc t

pub lane-low : (c : ℕ) → c < 256 → pairs.is_low (pairs.lane_value c) ≡ is_hex_digit c
lane-low c lt = low_parts (is_hex_digit c) _ (pairs.is_low (pairs.lane_value c)) (byte_agrees c lt)

lane-digit : (c : ℕ) → c < 256 → is_hex_digit c ≡ true → (pairs.lane_value c ≡ pairs.digit_value c) × (pairs.lane_value c < 16)
lane-digit c lt digit =
    let parts = same_parts (is_hex_digit c) _ (pairs.is_low (pairs.lane_value c)) (byte_agrees c lt) digit in
    (eqb-true (pairs.lane_value c) (pairs.digit_value c) parts.0, ltb-true (pairs.lane_value c) 16 parts.1)

pub lanes-low : (vs : List ℕ) → Each1 (λ c. c < 256) vs → list_all pairs.is_low (map pairs.lane_value vs) ≡ list_all is_hex_digit vs
lanes-low [] h = refl
lanes-low (v ∷ vs) h = λ i. lane-low v h.0 i && lanes-low vs h.1 i

-- ---- the octets of the lanes

joined_small : (x y : ℕ) → x < 16 → y < 16 → pairs.join x y ≡ x * 16 + y
joined_small x y hx hy = omega arith

joined : (a b : ℕ) → a < 256 → b < 256 → is_hex_digit a ≡ true → is_hex_digit b ≡ true
    → pairs.join (pairs.lane_value a) (pairs.lane_value b) ≡ pairs.digit_value a * 16 + pairs.digit_value b
joined a b ha hb da db =
    let x = lane-digit a ha da in
    let y = lane-digit b hb db in
    joined_small (pairs.lane_value a) (pairs.lane_value b) x.1 y.1 ∙ (λ i. x.0 i * 16 + y.0 i)

pub pairs_joined : (vs : List ℕ) → Each1 (λ c. c < 256) vs → list_all is_hex_digit vs ≡ true
    → pairs.pairs_with pairs.join (map pairs.lane_value vs) ≡ pairs.pairs_of vs
pairs_joined [] h all = refl
pairs_joined (a ∷ []) h all = refl
pairs_joined (a ∷ b ∷ vs) h all =
    let first = and_parts (is_hex_digit a) (is_hex_digit b && list_all is_hex_digit vs) all in
    let second = and_parts (is_hex_digit b) (list_all is_hex_digit vs) first.1 in
    λ i. joined a b h.0 h.1.0 first.0 second.0 i ∷ pairs_joined vs h.1.1 second.1 i

-- ---- the greater of two lanes

low_both : (a b : ℕ) → pairs.is_low (cond (top 7 (below a b)) b a) ≡ (pairs.is_low a && pairs.is_low b)
low_both a b = grind arith

swapped : (p q s t : Bool) → ((p && q) && (s && t)) ≡ ((p && s) && (q && t))
swapped true q true t = refl
swapped true true false t = refl
swapped true false false t = refl
swapped false q s t = refl

pub worse_low : (xs ys : List ℕ) → length xs ≡ length ys
    → list_all pairs.is_low (sel_l (map (top 7) (zip2 below xs ys)) ys xs) ≡ (list_all pairs.is_low xs && list_all pairs.is_low ys)
worse_low [] [] h = refl
worse_low [] (y ∷ ys) h = absurd (omega arith)
worse_low (x ∷ xs) [] h = absurd (omega arith)
worse_low (x ∷ xs) (y ∷ ys) h =
    (λ i. low_both x y i && worse_low xs ys (omega arith) i)
    ∙ swapped (pairs.is_low x) (pairs.is_low y) (list_all pairs.is_low xs) (list_all pairs.is_low ys)

-- ---- the mask of the lanes that are not low

no_bit : (v m : ℕ) → eqb (cond (leb 16 v) 1 0 + 2 * m) 0 ≡ (pairs.is_low v && eqb m 0)
no_bit v m = grind arith

none_high : (vs : List ℕ) → eqb (mask_l (map (λ v. leb 16 v) vs)) 0 ≡ list_all pairs.is_low vs
none_high [] = refl
none_high (v ∷ vs) = no_bit v (mask_l (map (λ v. leb 16 v) vs)) ∙ ap (λ r. pairs.is_low v && r) (none_high vs)

pub low_mask : (vs : List ℕ) → length vs ≡ 32
    → eqb (mask_l (map (top 7) (zip2 (λ a b. cond (leb a b) 255 0) (replicate 32 16) vs)) % 2 ^ 64) 0 ≡ list_all pairs.is_low vs
low_mask vs long =
    ap (λ ms. eqb (mask_l ms % 2 ^ 64) 0) (tops_compared w8 leb (replicate 32 16) vs ∙ zip2_splat_left leb 16 32 vs long)
    ∙ ap (λ m. eqb m 0) (mask_l-mod (map (λ v. leb 16 v) vs) 64 (omega (arith, length-map vs (λ (v : ℕ). leb 16 v), long)))
    ∙ none_high vs
