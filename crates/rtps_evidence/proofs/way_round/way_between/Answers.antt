use Rattle.std.proofs.Common.{◌∙◌, map}
use Rattle.rtps_audit.specs.Placed as placed
use Rattle.rtps_evidence.proofs.WayLemmas.{way_told}
use Rattle.rtps_evidence.proofs.way_round.way_between.Goals as goal

pub returns : goal.returns
returns c =
    let here = c.in_ok-here.here in
    let there = c.in_ok-there.there in
    c.way_by.ensures
    ∙ way_told (map placed.placed_value c.args.ours.now) (map placed.placed_value c.args.theirs.now) here.act here.answer there.act there.answer c.in_ok-here.ensures.act c.in_ok-here.ensures.answer c.in_ok-there.ensures.act c.in_ok-there.ensures.answer
