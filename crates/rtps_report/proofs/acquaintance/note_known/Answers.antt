use Rattle.std.proofs.Common.{◌++◌, List, map, subst}
use Rattle.std.proofs.lemmas.List.{take_all}
use Rattle.rtps_receiver.specs.declared.spoken.Spoken.{Spoken}
use Rattle.rtps_report.specs.ActsRead as acts_read
use Rattle.rtps_known.specs.Recorded as recorded
use Rattle.rtps_known.specs.Tellings as tellings
use Rattle.rtps_receiver.specs.Values as values
use Rattle.rtps_report.proofs.DiscoveryLemmas.{act_more}
use Rattle.rtps_report.proofs.acquaintance.note_known.Goals as goal

pub loop-act-preserved : goal.loop-act-preserved
loop-act-preserved c = λ before known.
    subst (λ (acts : List tellings.TimedAct). recorded.IsKnownOf acts c.note.new.self)
    (act_more values.spoken_value before c.args.time c.args.acts.now c.loop-act.act-index c.act-item.result c.loop-act-test.true c.act-item.is)
    (c.in_ok-note.ensures _ (c.loop-act.invariant before known))

pub returns : goal.returns
returns c = λ before known.
    subst (λ (acts : List Spoken). recorded.IsKnownOf (before ++ acts_read.acts_at c.args.time (map values.spoken_value acts)) c.loop-act.known)
    (take_all c.loop-act.act-index c.args.acts.now c.loop-act-test.false) (c.loop-act.invariant before known)
