use Rattle.std.proofs.Common.{◌∙◌, ap, map}
use Rattle.rtps_audit.specs.Placed as placed
use Rattle.rtps_evidence.specs.WayRound as way_round
use Rattle.rtps_evidence.proofs.WayLemmas.{way_same}
use Rattle.rtps_evidence.proofs.way_round.way_round.Goals as goal

pub returns : goal.returns
returns c = λ one other is also.
    let pair = c.args.pair in
    c.in_ok-way.ensures
    ∙ ap (λ l. way_round.way_between (map placed.placed_value l) (map placed.placed_value c.deref-2.result.now)) c.deref.ensures.value
    ∙ ap (λ l. way_round.way_between (map placed.placed_value c.in_ok-ours.ours.items) (map placed.placed_value l)) c.deref-2.ensures.value
    ∙ way_same (way_round.words_of pair (placed.placed_in one.acts)) (way_round.words_of pair (placed.placed_in other.acts)) (map placed.placed_value c.in_ok-ours.ours.items) (map placed.placed_value c.in_ok-theirs.theirs.items) (c.in_ok-ours.ensures.words one is) (c.in_ok-theirs.ensures.words other also)
