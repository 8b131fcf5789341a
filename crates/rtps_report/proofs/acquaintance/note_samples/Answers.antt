use Rattle.std.proofs.Common.{◌++◌, List, map, subst}
use Rattle.std.proofs.lemmas.Bool.{eq-eqb, ne_eqb}
use Rattle.std.proofs.lemmas.List.{take_all}
use Rattle.rtps_audit.specs.Placed as placed
use Rattle.rtps_audit.specs.declared.placed.Placed.{Placed}
use Rattle.rtps_known.specs.Matched as matched
use Rattle.rtps_known.specs.Places as places
use Rattle.rtps_receiver.specs.Values as values
use Rattle.rtps_report.specs.Acquaintance as acquaintance
use Rattle.rtps_report.specs.MatchingActs as matching_acts
use Rattle.rtps_report.proofs.MatchingLemmas.{sample_more, sample_skip}
use Rattle.rtps_report.proofs.acquaintance.note_samples.Goals as goal
use Rattle.rtps_report.proofs.acquaintance.note_samples.Goals.{then-sample-act+in_ok-note, else-sample-act}

pub loop-sample-preserved : goal.loop-sample-preserved
loop-sample-preserved c =
    let came = c.args.came in
    let act = values.spoken_value c.args.act.now in
    let samples = c.args.samples.now in
    let i = c.loop-sample.sample-index in
    let within = c.loop-sample-test.true in
    elim c.if-sample-act.branch [
      | then-sample-act+in_ok-note w ↦
          rw w.matches-is
          (λ before is.
          subst (λ (acts : List places.PlacedAct). matched.AreMatchesOf acts w.note.new.self)
          (sample_more came act samples i c.sample-item.result before (values.spoken_value w.sent_as.result) w.place_in.result within c.sample-item.is (eq-eqb _ _ w.if-sample-act.true) w.sent_as.ensures w.place_in.ensures)
          (w.in_ok-note.ensures _ (c.loop-sample.invariant before is)))
      | else-sample-act w ↦
          rw w.matches-is
          (λ before is.
          subst (λ (acts : List places.PlacedAct). matched.AreMatchesOf acts c.loop-sample.matches) (sample_skip came act samples i c.sample-item.result before within c.sample-item.is (ne_eqb _ _ w.if-sample-act.false))
          (c.loop-sample.invariant before is))
    ]

pub returns : goal.returns
returns c = λ before is.
    subst (λ (samples : List Placed). matched.AreMatchesOf (before ++ map (matching_acts.act_placed c.args.came) (acquaintance.samples_at (values.spoken_value c.args.act.now) (map placed.placed_value samples))) c.loop-sample.matches)
    (take_all c.loop-sample.sample-index c.args.samples.now c.loop-sample-test.false) (c.loop-sample.invariant before is)
