-- What stands in the front of octets stays, whatever comes behind.
use Rattle.std.proofs.Common.{◌≡◌, ℕ, ◌-◌, ◌≤◌, List, ◌++◌, length, drop, take, ap, ◌∙◌, arith}
use Rattle.std.specs.Prelude.{slice_range}
use Rattle.std.proofs.lemmas.List.{drop-append-le, length-drop, take-append-le}

pub slice_range-append : (from to : ℕ) (xs ys : List ℕ) → from ≤ to → to ≤ length xs → slice_range (xs ++ ys) from to ≡ slice_range xs from to
slice_range-append from to xs ys ordered within =
    ap (take (to - from)) (drop-append-le from xs ys (omega arith))
    ∙ take-append-le (to - from) (drop from xs) ys (omega (arith, length-drop from xs))
