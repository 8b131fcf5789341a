use Rattle.std.proofs.Common.{◌∙◌, replicate, refl}
use Rattle.rtps_digits.proofs.Encoding.{stored}
use Rattle.rtps_digits.proofs.encode.Goals as goal

pub returns : goal.returns
returns c =
    let lanes = c.digits_of.result in
    stored (replicate 32 0) lanes.0 lanes.1 refl c.digits_of.ensures.size.0 c.digits_of.ensures.size.1 ∙ c.digits_of.ensures.digits
