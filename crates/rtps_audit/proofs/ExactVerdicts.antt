-- What is promised of a verdict on the acts of a recording, and of a report.
use Rattle.std.proofs.Common.{◌≡◌, ℕ, ℤ, pos, List, [], ◌∷◌, All, get_or, map, subst, sym, inl, inr}
use Rattle.std.proofs.lemmas.List.Elements.{All-head}
use Rattle.std.specs.Prelude.{◌↔◌}
use Rattle.rtps_ids.specs.declared.identity.Guid.{Guid}
use Rattle.rtps_receiver.specs.Values as values
use Rattle.rtps_discovery.specs.declared.matching.Pair.{Pair}
use Rattle.rtps_audit.specs.Delivery as delivery
use Rattle.rtps_audit.specs.RunVerdict as run_verdict
use Rattle.rtps_audit.specs.Delivered as delivered_spec
use Rattle.rtps_audit.specs.Intake as intake
use Rattle.rtps_audit.specs.Report as report_spec
use Rattle.rtps_audit.specs.Speech as speech
use Rattle.rtps_audit.specs.declared.report.Report.{Report}
use Rattle.rtps_audit.specs.declared.report.Row.{Row}
use Rattle.rtps_audit.specs.declared.verdict.Verdict.{Verdict}
use Rattle.rtps_audit.proofs.EachVerdict.{payload_same}
use Rattle.rtps_audit.proofs.FullRuns.{full_run_where}
use Rattle.rtps_audit.proofs.OneVerdict.{has_no_two_verdicts}
use Rattle.rtps_audit.proofs.Verdicts.{plain_means_complete}

delivered : {from : ℕ} (speech : delivery.Speech) (last : ℤ) → run_verdict.IsVerdictFrom from speech (Verdict.Complete last) → delivered_spec.IsDeliveredFrom from speech last
delivered speech last (number, run, none, held) = record {
  last_number = number;
  has_run = run;
  each_held = held;
  one_payload = λ end ends n x y one other. elim (payload_same x y) [
    | inl same ↦ same
    | inr apart ↦ absurd (none n (end, x, y, ends, one, other, apart))
  ];
}

complete : {from : ℕ} (speech : delivery.Speech) (last : ℤ) → delivered_spec.IsDeliveredFrom from speech last → run_verdict.IsVerdictFrom from speech (Verdict.Complete last)
complete speech last is = (is.last_number, is.has_run, λ n (end, x, y, ends, one, other, apart). apart (is.one_payload end ends n x y one other), is.each_held)

complete_where : {from : ℕ} (speech : delivery.Speech) (verdict : Verdict) → run_verdict.IsVerdictFrom from speech verdict → (last : ℤ) → (verdict ≡ Verdict.Complete last) ↔ delivered_spec.IsDeliveredFrom from speech last
complete_where {from} speech verdict is last =
    (λ e. delivered speech last (subst (run_verdict.IsVerdictFrom from speech) e is), λ d. has_no_two_verdicts from speech verdict (Verdict.Complete last) is (complete speech last d))

complete_if_plain : {from : ℕ} (speech : delivery.Speech) (verdict : Verdict) → run_verdict.IsVerdictFrom from speech verdict → delivered_spec.IsPlainFrom from speech → verdict ≡ Verdict.Complete (pos (delivery.last_announced_from from speech))
complete_if_plain {from} speech verdict is p =
    has_no_two_verdicts from speech verdict (Verdict.Complete (pos (delivery.last_announced_from from speech))) is (plain_means_complete from speech p.founded p.one_payload p.claimed)

pub exact_verdict : (from : ℕ) (writer reader : Guid) (recording : List (List values.ActValue)) (verdict : Verdict) → run_verdict.IsVerdictFrom from (speech.speech_by writer reader recording) verdict → delivered_spec.IsExactVerdictFrom from (speech.speech_by writer reader recording) verdict
exact_verdict from writer reader recording verdict is = record {
  verdict = is;
  complete = complete_where (speech.speech_by writer reader recording) verdict is;
  plain = complete_if_plain (speech.speech_by writer reader recording) verdict is;
  full_run = full_run_where from writer reader recording verdict is;
}

pub exact_report : (from : ℕ) (intake : intake.Intake) (report : Report) → report_spec.IsReportBy from intake report → delivered_spec.IsExactReportBy from intake report
exact_report from intake report is = record {
  report = is;
  complete = λ k d lt last. complete_where _ _ (is.judged k d lt) last;
  full_run = λ k d lt. full_run_where _ _ _ _ _ (is.judged k d lt);
}

-- the one row of one pair
pub exact_row : (from : ℕ) (recording : List (List values.ActValue)) (pair : Pair) (rows : List Row) (at : Row) → at ≡ get_or rows 0 at → map (λ row. row.pair) rows ≡ pair ∷ [] → All (report_spec.IsJudgedFrom from recording) rows
    → delivered_spec.IsExactVerdictFrom from (speech.speech_by pair.writer pair.reader recording) at.verdict
exact_row from recording pair [] at is pairs judged = cc
exact_row from recording pair (row ∷ rows) at is pairs judged =
    let same : row.pair ≡ pair = (let h = pairs in cc) in
    let verdict = subst (λ (p : Pair). run_verdict.IsVerdictFrom from (speech.speech_by p.writer p.reader recording) row.verdict) same (All-head (report_spec.IsJudgedFrom from recording) row rows judged) in
    subst (λ (r : Row). delivered_spec.IsExactVerdictFrom from (speech.speech_by pair.writer pair.reader recording) r.verdict) (sym is) (exact_verdict from pair.writer pair.reader recording row.verdict verdict)
