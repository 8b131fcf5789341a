use Rattle.std.proofs.Common.{◌∙◌, All, ap, filter, sym, subst}
use Rattle.std.proofs.lemmas.List.Elements.{All-push}
use Rattle.rtps_ids.specs.declared.identity.Guid.{Guid}
use Rattle.rtps_audit.specs.Placed as placed
use Rattle.rtps_fragments.specs.Hearing as hearing
use Rattle.rtps_fragments.specs.SampleReport as sample_report
use Rattle.rtps_fragments.proofs.SampleReportLemmas.{rows_more}
use Rattle.rtps_fragments.proofs.sample_report.rows_heard.Goals as goal

pub row_heard-requires : goal.row_heard-requires
row_heard-requires c = λ intake is.
    c.sender_of-sender.ensures.sends intake is ∙ ap (λ (writer : Guid). hearing.have_fragments (filter (placed.is_from writer) (placed.placed_in intake.acts))) c.sender_of-sender.ensures.writer

pub loop-row-preserved : goal.loop-row-preserved
loop-row-preserved c = record {
  pairs = rows_more c.loop-row.heard.items _ _ c.args.rows.now c.loop-row.row-index _ c.loop-row-test.true c.in_ok-push.ensures.items c.in_ok-own.ensures.pair c.loop-row.invariant.pairs;
  judged = λ intake is known.
      subst (All (sample_report.IsHeardFrom c.args.from intake.acts)) (sym c.in_ok-push.ensures.items)
      (All-push (sample_report.IsHeardFrom c.args.from intake.acts) c.loop-row.heard.items _ (c.loop-row.invariant.judged intake is known) (c.in_ok-own.ensures.judged intake is (known c.loop-row.row-index _ c.loop-row-test.true)));
  sender = c.sender_of-sender.ensures.sends;
}
