use Rattle.std.proofs.Common.{◌++◌, List, map, subst}
use Rattle.std.proofs.lemmas.List.{take_all}
use Rattle.rtps_audit.specs.Placed as placed
use Rattle.rtps_known.specs.Matched as matched
use Rattle.rtps_known.specs.Places as places
use Rattle.rtps_receiver.specs.Values as values
use Rattle.rtps_receiver.specs.declared.spoken.Spoken.{Spoken}
use Rattle.rtps_report.specs.Acquaintance as acquaintance
use Rattle.rtps_report.proofs.MatchingLemmas.{acts_more}
use Rattle.rtps_report.proofs.acquaintance.note_matches.Goals as goal

pub loop-act-preserved : goal.loop-act-preserved
loop-act-preserved c = λ before is.
    subst (λ (acts : List places.PlacedAct). matched.AreMatchesOf acts c.note_act.new.matches)
    (acts_more values.spoken_value before (map placed.placed_value c.args.samples.now) c.args.came c.args.acts.now c.loop-act.act-index c.act-item.result c.loop-act-test.true c.act-item.is)
    (c.in_ok-note_act.ensures _ (c.loop-act.invariant before is))

pub returns : goal.returns
returns c = λ before is.
    subst (λ (acts : List Spoken). matched.AreMatchesOf (before ++ acquaintance.acts_heard c.args.came (map placed.placed_value c.args.samples.now) (map values.spoken_value acts)) c.loop-act.matches)
    (take_all c.loop-act.act-index c.args.acts.now c.loop-act-test.false) (c.loop-act.invariant before is)
