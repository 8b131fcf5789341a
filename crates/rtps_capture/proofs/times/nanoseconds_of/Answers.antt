use Rattle.std.proofs.Common.{◌<◌, ap, arith}
use Rattle.std.proofs.Math.Nat.{one-le-pow}
use Rattle.rtps_capture.proofs.times.nanoseconds_of.Goals as goal
use Rattle.rtps_capture.proofs.times.nanoseconds_of.Goals.{then-resolution-lt128, else-resolution-lt128}

pub nonzero_div-result : goal.nonzero_div-result
nonzero_div-result c =
    let base = c.if-resolution-lt128.base in
    let some : 0 < base.0 =
    elim c.if-resolution-lt128.branch [
      | then-resolution-lt128 w ↦ omega (arith, ap (λ pair. pair.0) w.base-is)
      | else-resolution-lt128 w ↦ omega (arith, ap (λ pair. pair.0) w.base-is)
    ] in
    omega (arith, c.in-Some.ensures.1, one-le-pow c.from-3.result base.0 some)
