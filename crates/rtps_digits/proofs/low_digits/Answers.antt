use Rattle.std.proofs.Common.{◌≡◌, map, subst}
use Rattle.rtps_digits.specs.Pairs as pairs
use Rattle.rtps_digits.proofs.Encoding.{chosen_digits, chosen_digits_are}
use Rattle.rtps_digits.proofs.low_digits.Goals as goal

pub returns : goal.returns
returns c =
    let vs = c.args.halves in
    subst (λ n. chosen_digits vs n ≡ map pairs.half_digit vs) c.fits-halves.0 (chosen_digits_are vs)
