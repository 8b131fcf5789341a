use Rattle.std.proofs.Common.{◌∙◌, ap, map}
use Rattle.std.proofs.lemmas.Simd.{map-map, zip2_splat}
use Rattle.rtps_digits.specs.Pairs as pairs
use Rattle.rtps_digits.proofs.second_digits.Goals as goal

pub returns : goal.returns
returns c =
    let vs = c.args.octets in
    c.low_digits.ensures ∙ (ap (map pairs.half_digit) (zip2_splat _ vs 16 15 c.fits-octets.0) ∙ map-map pairs.half_digit _ vs)
