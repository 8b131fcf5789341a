use Rattle.std.proofs.Common.{◌∙◌, List, map, subst, sym}
use Rattle.rtps_audit.specs.Placed as placed
use Rattle.rtps_known.specs.Matched as matched
use Rattle.rtps_known.specs.Places as places
use Rattle.rtps_receiver.specs.Values as values
use Rattle.rtps_report.proofs.MatchingLemmas.{frag_more, plain_more}
use Rattle.rtps_report.proofs.acquaintance.note_act.Goals as goal

pub returns-in_ok-note_samples : goal.returns-in_ok-note_samples
returns-in_ok-note_samples c = λ before is.
    subst (λ (acts : List places.PlacedAct). matched.AreMatchesOf acts c.note_samples.new.matches)
    (frag_more before c.args.came (values.spoken_value c.args.act.now) (map placed.placed_value c.args.samples.now) c.place_in.result c.place_in.ensures (sym c.is_data_frag.ensures ∙ c.if-is_data_frag.true))
    (c.in_ok-note_samples.ensures _ (c.in_ok-note.ensures before is))

pub returns-else-is_data_frag : goal.returns-else-is_data_frag
returns-else-is_data_frag c = λ before is.
    subst (λ (acts : List places.PlacedAct). matched.AreMatchesOf acts c.note.new.self)
    (plain_more before c.args.came (values.spoken_value c.args.act.now) (map placed.placed_value c.args.samples.now) c.place_in.result c.place_in.ensures (sym c.is_data_frag.ensures ∙ c.if-is_data_frag.false)) (c.in_ok-note.ensures before is)
