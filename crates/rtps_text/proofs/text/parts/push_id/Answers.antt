use Rattle.std.proofs.Common.{◌++◌, ◌∷◌, [], codes, refl}
use Rattle.std.proofs.lemmas.Str.{IsAscii-append}
use Rattle.hex.specs.Hex.{encode_lower}
use Rattle.rtps_text.proofs.DigitLemmas.{IsAscii-encode_lower, ascii_where_low}
use Rattle.rtps_text.proofs.text.parts.push_id.Goals as goal

pub text_of-requires : goal.text_of-requires
text_of-requires c =
    let id = c.args.id ∷ [] in
    let name = ascii_where_low (codes " id ") refl in
    let end = ascii_where_low (codes "\n") refl in
    rw c.id_field.ensures (IsAscii-append (codes " id ") (encode_lower id ++ codes "\n") name
    (IsAscii-append (encode_lower id) (codes "\n") (IsAscii-encode_lower id) end))
