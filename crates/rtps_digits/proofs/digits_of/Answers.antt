use Rattle.std.proofs.Common.{◌++◌, ◌∙◌, ap}
use Rattle.rtps_digits.proofs.Encoding.{encoded, woven}
use Rattle.rtps_digits.proofs.digits_of.Goals as goal

pub returns-clause-digits : goal.returns-clause-digits
returns-clause-digits c =
    ap (λ lanes. woven lanes 16 0) (λ i. c.first_digits.ensures i ++ c.second_digits.ensures i)
    ∙ encoded c.args.octets c.fits-octets.0 c.fits-octets.1
