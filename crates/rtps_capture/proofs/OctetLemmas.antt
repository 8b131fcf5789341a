-- Numbers that stand in octets: those that come behind change none, and those that are left out in front move them.
use Rattle.std.proofs.Common.{◌≡◌, ℕ, ◌+◌, ◌-◌, ◌≤◌, List, [], ◌∷◌, ◌++◌, length, drop, take, refl, sym, ap, ap₂, ◌∙◌, arith}
use Rattle.std.specs.Prelude.{slice_range}
use Rattle.std.proofs.lemmas.List.{drop-append-le, drop-drop, length-drop}
use Rattle.rtps_ids.specs.Octets as octets_spec
use Rattle.rtps_ids.specs.declared.order.Order.{Order}
use Rattle.rtps_capture.specs.OctetNumbers as octet_numbers

two-append : (order : Order) (start more : List ℕ) → 2 ≤ length start → octets_spec.number_of order 2 (start ++ more) ≡ octets_spec.number_of order 2 start
unfolding octets_spec.number_of
two-append order [] more enough = absurd (omega arith)
two-append order (a ∷ []) more enough = absurd (omega arith)
two-append Order.Big (a ∷ b ∷ rest) more enough = refl
two-append Order.Little (a ∷ b ∷ rest) more enough = refl

four-append : (order : Order) (start more : List ℕ) → 4 ≤ length start → octets_spec.number_of order 4 (start ++ more) ≡ octets_spec.number_of order 4 start
unfolding octets_spec.number_of
four-append order [] more enough = absurd (omega arith)
four-append order (a ∷ []) more enough = absurd (omega arith)
four-append order (a ∷ b ∷ []) more enough = absurd (omega arith)
four-append order (a ∷ b ∷ c ∷ []) more enough = absurd (omega arith)
four-append Order.Big (a ∷ b ∷ c ∷ d ∷ rest) more enough = refl
four-append Order.Little (a ∷ b ∷ c ∷ d ∷ rest) more enough = refl

pub two_at-append : (order : Order) (octets more : List ℕ) (at : ℕ) → at + 2 ≤ length octets → octet_numbers.two_at order (octets ++ more) at ≡ octet_numbers.two_at order octets at
two_at-append order octets more at within =
    ap (octets_spec.number_of order 2) (drop-append-le at octets more (omega arith)) ∙ two-append order (drop at octets) more (omega (arith, length-drop at octets))

pub four_at-append : (order : Order) (octets more : List ℕ) (at : ℕ) → at + 4 ≤ length octets → octet_numbers.four_at order (octets ++ more) at ≡ octet_numbers.four_at order octets at
four_at-append order octets more at within =
    ap (octets_spec.number_of order 4) (drop-append-le at octets more (omega arith)) ∙ four-append order (drop at octets) more (omega (arith, length-drop at octets))

pub two_at-drop : (order : Order) (octets : List ℕ) (by at : ℕ) → octet_numbers.two_at order (drop by octets) at ≡ octet_numbers.two_at order octets (by + at)
two_at-drop order octets by at = ap (octets_spec.number_of order 2) (drop-drop at by octets)

pub four_at-drop : (order : Order) (octets : List ℕ) (by at : ℕ) → octet_numbers.four_at order (drop by octets) at ≡ octet_numbers.four_at order octets (by + at)
four_at-drop order octets by at = ap (octets_spec.number_of order 4) (drop-drop at by octets)

-- the same octets, by the place where they stand
pub two_there : (order : Order) (octets : List ℕ) (by here there : ℕ) → there ≡ by + here → octet_numbers.two_at order (drop by octets) here ≡ octet_numbers.two_at order octets there
two_there order octets by here there is = two_at-drop order octets by here ∙ ap (octet_numbers.two_at order octets) (sym is)

pub four_there : (order : Order) (octets : List ℕ) (by here there : ℕ) → there ≡ by + here → octet_numbers.four_at order (drop by octets) here ≡ octet_numbers.four_at order octets there
four_there order octets by here there is = four_at-drop order octets by here ∙ ap (octet_numbers.four_at order octets) (sym is)

pub range_there : (octets : List ℕ) (by from to begin end : ℕ) → begin ≡ by + from → end ≡ by + to → slice_range (drop by octets) from to ≡ slice_range octets begin end
range_there octets by from to begin end first last =
    let size : to - from ≡ end - begin = omega (arith, first, last) in ap₂ take size (drop-drop from by octets ∙ ap (λ (n : ℕ). drop n octets) (sym first))
