use Rattle.std.proofs.Common.{◌++◌, ◌∙◌, ap, length, replicate}
use Rattle.hex.specs.Hex.{encode_lower}
use borrow.Rule.Slice.PartMut.{post_of}
use Rattle.rtps_text.proofs.DigitLemmas.{take-encode_lower}
use Rattle.rtps_text.proofs.text.parts.digits_from.Goals as goal

pub returns : goal.returns
returns c =
    let octets = c.args.octets.now in
    let more = post_of 0 (length octets) (replicate 16 0) in
    take-encode_lower c.encode.result octets more (c.encode.ensures ∙ ap (λ filled. encode_lower (filled ++ more)) c.copy_from_slice.ensures.after)
