use Rattle.rtps_text.proofs.DigitLemmas.{IsAscii-encode_lower}
use Rattle.rtps_text.proofs.text.parts.push_digits.Goals as goal

pub text_of-requires : goal.text_of-requires
text_of-requires c = rw c.digits_from-digits.ensures (IsAscii-encode_lower c.args.octets.now)
