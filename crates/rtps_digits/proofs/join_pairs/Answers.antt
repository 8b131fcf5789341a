use Rattle.std.proofs.Common.{ap, ◌∙◌}
use Rattle.std.proofs.lemmas.Simd.{pick_l_left, pick_l_whole}
use Rattle.std.specs.List.{range_with_len}
use Rattle.rtps_digits.specs.Pairs as pairs
use Rattle.rtps_digits.proofs.join_pairs.Goals as goal

pub returns : goal.returns
returns c =
    let v = c.args.values in
    ap (pairs.pairs_with pairs.join) (pick_l_left 0 v v 32 (range_with_len 0 32) c.fits-values.0 tt ∙ pick_l_whole 0 v 32 c.fits-values.0)
