use Rattle.std.proofs.Common.{◌≡◌, map, subst}
use Rattle.rtps_digits.specs.Pairs as pairs
use Rattle.rtps_digits.proofs.Lanes.{computed, computed_is}
use Rattle.rtps_digits.proofs.lane_values.Goals as goal

pub returns : goal.returns
returns c =
    let vs = c.args.digits in
    subst (λ n. computed vs n ≡ map pairs.lane_value vs) c.fits-digits.0 (computed_is vs)
