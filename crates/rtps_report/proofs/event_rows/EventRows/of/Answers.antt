use Rattle.std.proofs.Common.{◌∙◌, ◌+◌, sym, map, subst, take}
use Rattle.rtps_report.specs.Events as events
use Rattle.rtps_report.specs.Talk as talk
use Rattle.rtps_evidence.specs.Explanation as explanation
use Rattle.rtps_report.proofs.EventLemmas.{with_next, without_next}
use Rattle.rtps_report.proofs.event_rows.EventRows.of.Goals as goal
use Rattle.rtps_report.proofs.event_rows.EventRows.of.Goals.{in-Some+in_ok-note, in_default}

pub loop-row-init : goal.loop-row-init
loop-row-init c = c.none-found.ensures (talk.talk_value c.args.talk.now) c.args.tail

pub loop-row-preserved : goal.loop-row-preserved
loop-row-preserved c =
    let talk = talk.talk_value c.args.talk.now in
    let rows = c.args.rows.now in
    let i = c.loop-row.row-index in
    elim c.match-noted_key.branch [
      | in-Some+in_ok-note w ↦
          subst (events.AreEventRows talk c.args.tail (map explanation.explanation_value (take (i + 1) rows))) (sym w.found-is)
          (with_next talk c.args.tail rows i _ _ c.loop-row-test.true
          (w.in_ok-note.ensures talk c.args.tail (map explanation.explanation_value (take i rows)) (sym c.noted_key.ensures ∙ w.in-Some.is) c.loop-row.invariant))
      | in_default w ↦
          subst (events.AreEventRows talk c.args.tail (map explanation.explanation_value (take (i + 1) rows))) (sym w.found-is)
          (without_next talk c.args.tail rows i _ c.noted_key.result _ c.loop-row-test.true c.noted_key.ensures w.in_default.is c.loop-row.invariant)
    ]
