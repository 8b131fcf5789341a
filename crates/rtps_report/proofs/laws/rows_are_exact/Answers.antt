use Rattle.std.proofs.Common.{◌≡◌, ◌∙◌, ℕ, Bool, true, false, List, All, Option, None, ap, subst, sym}
use Rattle.std.proofs.lemmas.List.Elements.{All-weaker}
use Rattle.rtps_audit.specs.Laws as audit_laws
use Rattle.rtps_audit.specs.RunVerdict as run_verdict
use Rattle.rtps_audit.specs.Said as said
use Rattle.rtps_audit.specs.Speech as speech
use Rattle.rtps_audit.proofs.Offered.{exact_verdict}
use Rattle.rtps_ids.specs.declared.identity.Guid.{Guid}
use Rattle.rtps_receiver.specs.Values as values
use Rattle.rtps_evidence.specs.Evidence as evidence
use Rattle.rtps_evidence.specs.OtherSide as other_side
use Rattle.rtps_evidence.specs.Spans as spans_spec
use Rattle.rtps_evidence.specs.declared.span.Span.{Span}
use Rattle.rtps_fragments.specs.Hearing as hearing
use Rattle.rtps_fragments.specs.Laws as fragments_laws
use Rattle.rtps_fragments.specs.SampleReport as sample_report
use Rattle.rtps_evidence.specs.declared.explanation.Explanation.{Explanation}
use Rattle.rtps_fragments.specs.declared.fragments.Fragments.{Fragments}
use Rattle.rtps_evidence.specs.declared.in_span.InSpan.{InSpan}
use Rattle.rtps_audit.specs.Intake as intake
use Rattle.rtps_discovery.specs.declared.matching.Pair.{Pair}
use Rattle.rtps_audit.specs.declared.report.Row.{Row}
use Rattle.rtps_audit.specs.declared.verdict.Verdict.{Verdict}
use Rattle.rtps_fragments.specs.RecordedSamples as recorded_samples
use Rattle.rtps_report.specs.Asked as asked
use Rattle.rtps_report.specs.Laws as laws
use Rattle.rtps_report.specs.declared.audited.AskedAudit.{AskedAudit}
use Rattle.rtps_report.specs.RowFacts as row_facts
use Rattle.rtps_report.proofs.laws.rows_are_exact.Goals as goal

-- where fragments are skipped, a reader hears the acts of the first datagrams as they are
heard_plain : said.FirstDatagramsSayTheSame → fragments_laws.SkippedFragmentsAreNotSent → fragments_laws.ActsAreHeardWithoutFragments → (reader : Guid) (until : Option ℕ) (recording : List (List ℕ))
    → hearing.heard_by reader (said.datagrams_until until (intake.intake_of recording).acts) ≡ said.datagrams_until until (intake.intake_of recording).acts
heard_plain say unsent stay reader until recording =
    ap (hearing.heard_by reader) (sym (say until recording)) ∙ stay reader (speech.acts_by_datagram (said.datagrams_until until recording)) (unsent (said.datagrams_until until recording)) ∙ say until recording

module _ (say : said.FirstDatagramsSayTheSame) (unsent : fragments_laws.SkippedFragmentsAreNotSent) (stay : fragments_laws.ActsAreHeardWithoutFragments) (tell : fragments_laws.FirstDatagramsTellTheSame) (plain : audit_laws.FirstDatagramsDecide)
    (samples : fragments_laws.FirstDatagramsDecideSamples) where
  -- the verdict by what is heard of the first datagrams is that of the recording that ends there
  verdict_as : (fragments : Fragments) (from : ℕ) (pair : Pair) (until : Option ℕ) (recording : List (List ℕ)) (verdict : Verdict)
      → run_verdict.IsVerdictFrom from (speech.speech_by pair.writer pair.reader (hearing.heard_by pair.reader (said.datagrams_until until (recorded_samples.intake_as fragments recording).acts))) verdict
      → laws.IsVerdictAs fragments from pair (said.datagrams_until until recording) verdict
  verdict_as Fragments.Skipped from pair until recording verdict is =
      let moved = subst (λ (acts : List (List values.ActValue)). run_verdict.IsVerdictFrom from (speech.speech_by pair.writer pair.reader acts) verdict) (heard_plain say unsent stay pair.reader until recording) is in
      (plain from pair.writer pair.reader until recording verdict).0 (exact_verdict from pair.writer pair.reader (said.datagrams_until until (intake.intake_of recording).acts) verdict moved)
  verdict_as Fragments.Read from pair until recording verdict is = (samples from pair.writer pair.reader until recording verdict).1 is

  -- and these acts are the acts that are heard of them
  acts_are : (fragments : Fragments) (reader : Guid) (until : Option ℕ) (recording : List (List ℕ))
      → hearing.heard_by reader (said.datagrams_until until (recorded_samples.intake_as fragments recording).acts) ≡ laws.first_acts fragments reader until recording
  acts_are Fragments.Skipped reader until recording = heard_plain say unsent stay reader until recording ∙ sym (say until recording)
  acts_are Fragments.Read reader until recording = tell reader until recording

-- the first number and the datagram of a row are those of its span
row_first : (spans : Bool) (from : ℕ) (beside : other_side.Beside) (pair : Pair) (intake : intake.Intake) (span : Span) (acts : List (List values.ActValue)) (found : Option InSpan)
    → spans_spec.IsExtent spans from pair intake span → evidence.IsBeside spans beside span pair intake.acts acts found → row_facts.row_from from found ≡ span.from
row_first true from beside pair intake span acts found extent (in_span, is, shown) = ap (row_facts.row_from from) is ∙ shown.first
row_first false from beside pair intake span acts found extent is = ap (row_facts.row_from from) is ∙ sym extent.first

row_until : (spans : Bool) (from : ℕ) (beside : other_side.Beside) (pair : Pair) (intake : intake.Intake) (span : Span) (acts : List (List values.ActValue)) (found : Option InSpan)
    → spans_spec.IsExtent spans from pair intake span → evidence.IsBeside spans beside span pair intake.acts acts found → row_facts.left_in found ≡ span.until
row_until true from beside pair intake span acts found extent (in_span, is, shown) = ap row_facts.left_in is ∙ shown.until
row_until false from beside pair intake span acts found extent is = ap row_facts.left_in is ∙ sym extent.until

module _ (say : said.FirstDatagramsSayTheSame) (unsent : fragments_laws.SkippedFragmentsAreNotSent) (stay : fragments_laws.ActsAreHeardWithoutFragments) (tell : fragments_laws.FirstDatagramsTellTheSame) (plain : audit_laws.FirstDatagramsDecide)
    (samples : fragments_laws.FirstDatagramsDecideSamples) where
  exact_row : (spans : Bool) (asked : AskedAudit) (beside : other_side.Beside) (recording : List (List ℕ)) (row : Explanation)
      → evidence.IsEvidenceBy spans asked.from beside row.pair (recorded_samples.intake_as asked.fragments recording) row.evidence → laws.IsExactRow spans asked beside recording row
  exact_row spans asked beside recording row is =
      let intake = recorded_samples.intake_as asked.fragments recording in
      let acts = spans_spec.heard_in is.span row.pair intake.acts in
      let first = row_first spans asked.from beside row.pair intake is.span acts row.evidence.in_span is.extent is.in_span in
      let until = row_until spans asked.from beside row.pair intake is.span acts row.evidence.in_span is.extent is.in_span in
      let same = acts_are say unsent stay tell plain samples asked.fragments row.pair.reader is.span.until recording in
      record {
        verdict = rw (first, until) (verdict_as say unsent stay tell plain samples asked.fragments is.span.from row.pair is.span.until recording row.evidence.verdict is.shown.verdict);
        span = is.span;
        extent = is.extent;
        first = first;
        until = until;
        shown = subst (λ (those : List (List values.ActValue)). evidence.IsShown (other_side.is_there intake.acts beside.other row.pair) is.span.from (spans_spec.since_of is.span) row.pair those row.evidence) same is.shown;
        in_span = subst (λ (those : List (List values.ActValue)). evidence.IsBeside spans beside is.span row.pair intake.acts those row.evidence.in_span) same is.in_span;
      }

  exact_rows : (spans : Bool) (asked : AskedAudit) (beside : other_side.Beside) (recording : List (List ℕ)) (rows : List Explanation)
      → All (λ (row : Explanation). evidence.IsEvidenceBy spans asked.from beside row.pair (recorded_samples.intake_as asked.fragments recording) row.evidence) rows → All (laws.IsExactRow spans asked beside recording) rows
  exact_rows spans asked beside recording rows shown =
      All-weaker (λ (row : Explanation). evidence.IsEvidenceBy spans asked.from beside row.pair (recorded_samples.intake_as asked.fragments recording) row.evidence) (laws.IsExactRow spans asked beside recording)
      (exact_row spans asked beside recording) rows shown

  audited_are_exact : laws.AuditedRowsAreExact
  audited_are_exact asked recording explained is = exact_rows false asked other_side.alone recording explained.rows.items is.rows.shown

  -- of a report samples in fragments are read
  abbrev reading : asked.AskedValue → AskedAudit
  reading asked = record { from = asked.from; fragments = Fragments.Read }

  explained_are_exact : laws.ExplainedRowsAreExact
  explained_are_exact asked beside recording traffic explained is = exact_rows true (reading asked) beside recording explained.rows.items is.rows.shown

  reported_are_exact : laws.ReportedRowsAreExact
  reported_are_exact asked recording report is =
      All-weaker (sample_report.IsHeardFrom asked.from (recorded_samples.intake_as asked.fragments recording).acts) (λ (row : Row). laws.IsVerdictAs asked.fragments asked.from row.pair recording row.verdict)
      (λ row verdict. verdict_as say unsent stay tell plain samples asked.fragments asked.from row.pair None recording row.verdict verdict) report.rows.items is.judged

pub returns-clause-reported : goal.returns-clause-reported
returns-clause-reported c = reported_are_exact c.first_datagrams_say_the_same.ensures.acts c.skipped_fragments_are_not_sent.ensures c.acts_are_heard_without_fragments.ensures c.first_datagrams_tell_the_same.ensures c.first_datagrams_say_the_same.ensures.verdict c.first_datagrams_decide.ensures

pub returns-clause-explained : goal.returns-clause-explained
returns-clause-explained c = explained_are_exact c.first_datagrams_say_the_same.ensures.acts c.skipped_fragments_are_not_sent.ensures c.acts_are_heard_without_fragments.ensures c.first_datagrams_tell_the_same.ensures c.first_datagrams_say_the_same.ensures.verdict c.first_datagrams_decide.ensures

pub returns-clause-audited : goal.returns-clause-audited
returns-clause-audited c = audited_are_exact c.first_datagrams_say_the_same.ensures.acts c.skipped_fragments_are_not_sent.ensures c.acts_are_heard_without_fragments.ensures c.first_datagrams_tell_the_same.ensures c.first_datagrams_say_the_same.ensures.verdict c.first_datagrams_decide.ensures
