-- What one would ask of what is told of a recording. own: a text can be trusted only if nothing but the recording decides it.
use Rattle.std.specs.Prelude.{ℕ, ◌≡◌, ◌↔◌, ◌⊎◌, Bool, true, false, All, Contains, List, Option, map}
use Rattle.rtps_audit.specs.Delivered as delivered
use Rattle.rtps_audit.specs.Placed as placed
use Rattle.rtps_audit.specs.Said as said
use Rattle.rtps_audit.specs.Speech as speech
use Rattle.rtps_evidence.specs.Evidence as evidence
use Rattle.rtps_evidence.specs.Outcomes as outcomes
use Rattle.rtps_evidence.specs.UnansweredLaw as unanswered_law
use Rattle.rtps_evidence.specs.declared.location.Location.{Location}
use Rattle.rtps_evidence.specs.OtherSide as other_side
use Rattle.rtps_evidence.specs.Spans as spans_spec
use Rattle.rtps_evidence.specs.declared.span.Span.{Span}
use Rattle.rtps_receiver.specs.Values as values
use Rattle.rtps_discovery.specs.Directory as directory_spec
use Rattle.rtps_report.specs.declared.findings.Ending.{Ending}
use Rattle.rtps_evidence.specs.declared.explanation.Explained.{Explained}
use Rattle.rtps_evidence.specs.declared.explanation.Explanation.{Explanation}
use Rattle.rtps_fragments.specs.declared.fragments.Fragments.{Fragments}
use Rattle.rtps_audit.specs.declared.report.Report.{Report}
use Rattle.rtps_audit.specs.declared.verdict.Verdict.{Verdict}
use Rattle.rtps_fragments.specs.RecordedSamples as recorded_samples
use Rattle.rtps_evidence.specs.Explanation as explanation
use Rattle.rtps_fragments.specs.FragmentVerdict as fragment_verdict
use Rattle.rtps_fragments.specs.Laws as laws
use Rattle.rtps_fragments.specs.SampleActs as sample_acts
use Rattle.rtps_fragments.specs.FragmentWalk as fragment_walk
use Rattle.rtps_report.specs.FullReport as full_report
use Rattle.rtps_report.specs.Asked as asked
use Rattle.rtps_report.specs.Recording as recording
use Rattle.rtps_report.specs.Reported as reported
use Rattle.rtps_report.specs.declared.audited.AskedAudit.{AskedAudit}
use Rattle.rtps_report.specs.Talk as talk
use Rattle.rtps_policies.specs.Silence as silence
use Rattle.rtps_discovery.specs.Matching as matching
use Rattle.rtps_discovery.specs.declared.matching.Match.{Match}
use Rattle.rtps_discovery.specs.declared.matching.Pair.{Pair}
use Rattle.rtps_ids.specs.declared.identity.Guid.{Guid}
use Rattle.rtps_ids.specs.declared.identity.GuidPrefix.{GuidPrefix}
use Rattle.rtps_report.specs.RowFacts as row_facts

-- of each recording there is one such text, and one ending
abbrev pub HasOneText : (recording.RecordingValue → List ℕ → Ending → Type 0) → Type 0
HasOneText IsText =
    (recording : recording.RecordingValue) (one other : List ℕ) (ending last : Ending) → IsText recording one ending → IsText recording other last
    → (one ≡ other) × (ending ≡ last)

-- it is the verdict on a pair by these datagrams, by the numbers from `from` on: the exact one by all runs; where fragments are read, that
-- by all runs in which the reader takes them one by one
abbrev pub IsVerdictAs : Fragments → ℕ → Pair → List (List ℕ) → Verdict → Type 0
IsVerdictAs Fragments.Skipped from pair recording verdict = delivered.IsExactVerdictFrom from (speech.speech_of pair.writer pair.reader recording) verdict
IsVerdictAs Fragments.Read from pair recording verdict = fragment_verdict.IsFragmentVerdictFrom from (sample_acts.fragment_speech_of pair.writer pair.reader (fragment_walk.sending_of recording)) verdict

-- each row of an audit has the verdict of the recording, by the numbers that are asked about
abbrev pub ReportedRowsAreExact : Type 0
ReportedRowsAreExact =
    (asked : AskedAudit) (recording : List (List ℕ)) (report : Report) → reported.IsReportAs asked recording report
    → All (λ row. IsVerdictAs asked.fragments asked.from row.pair recording row.verdict) report.rows.items

-- the acts of the first datagrams; where fragments are read, each with the samples that it tells this reader
abbrev pub first_acts : Fragments → Guid → Option ℕ → List (List ℕ) → List (List values.ActValue)
first_acts Fragments.Skipped reader until recording = speech.acts_by_datagram (said.datagrams_until until recording)
first_acts Fragments.Read reader until recording = laws.first_acts_heard reader until recording

-- An unanswered number is what its words say, of the acts of the first datagrams of a recording; where fragments are read, of these and the
-- samples that they tell the reader.
abbrev pub UnansweredIsByItsWordsIn : Fragments → Option ℕ → List (List ℕ) → Type 0
UnansweredIsByItsWordsIn fragments until recording =
    (times : List (Option ℕ)) (since : Option Location) (pair : Pair) (n : ℕ)
    → (outcomes.is_unanswered times since pair (placed.placed_in (first_acts fragments pair.reader until recording)) n ≡ true)
    ↔ unanswered_law.IsUnanswered times since pair (placed.placed_in (first_acts fragments pair.reader until recording)) n

-- it is so in each report
abbrev pub ReportedUnansweredIsByItsWords : Type 0
ReportedUnansweredIsByItsWords = (fragments : Fragments) (until : Option ℕ) (recording : List (List ℕ)) → UnansweredIsByItsWordsIn fragments until recording

-- An explained row has the verdict of the recording that ends before the datagram in which its reader leaves, by the numbers from its first
-- one on, and the evidence of their acts. Both are those of the span of its pair; where rows are in no span, the row is by the whole
-- recording and all numbers that are asked about.
pub record IsExactRow (spans : Bool) (asked : AskedAudit) (beside : other_side.Beside) (recording : List (List ℕ)) (row : Explanation) : Type 0 where
  pub verdict : IsVerdictAs asked.fragments (row_facts.row_from asked.from row.evidence.in_span) row.pair (said.datagrams_until (row_facts.left_in row.evidence.in_span) recording) row.evidence.verdict
  pub span : Span
  pub extent : spans_spec.IsExtent spans asked.from row.pair (recorded_samples.intake_as asked.fragments recording) span
  pub first : row_facts.row_from asked.from row.evidence.in_span ≡ span.from
  pub until : row_facts.left_in row.evidence.in_span ≡ span.until
  pub shown : evidence.IsShown (other_side.is_there (recorded_samples.intake_as asked.fragments recording).acts beside.other row.pair) span.from (spans_spec.since_of span) row.pair (first_acts asked.fragments row.pair.reader span.until recording) row.evidence
  pub in_span : evidence.IsBeside spans beside span row.pair (recorded_samples.intake_as asked.fragments recording).acts (first_acts asked.fragments row.pair.reader span.until recording) row.evidence.in_span

-- each explained row of an audit is such a row, in no span
abbrev pub AuditedRowsAreExact : Type 0
AuditedRowsAreExact =
    (asked : AskedAudit) (recording : List (List ℕ)) (explained : Explained) → reported.IsAuditExplained asked recording explained
    → All (IsExactRow false asked other_side.alone recording) explained.rows.items

-- a row of a report is one in the span of its pair: samples that come in fragments are read
abbrev pub IsExactInSpan : asked.AskedValue → other_side.Beside → List (List ℕ) → Explanation → Type 0
IsExactInSpan asked beside recording row = IsExactRow true (record { from = asked.from; fragments = Fragments.Read }) beside recording row

-- each row of a report is so
abbrev pub ExplainedRowsAreExact : Type 0
ExplainedRowsAreExact =
    (asked : asked.AskedValue) (beside : other_side.Beside) (recording : List (List ℕ)) (traffic : silence.Traffic) (explained : Explained)
    → full_report.AreRowsOf asked (recorded_samples.intake_as Fragments.Read recording) beside traffic explained → All (IsExactInSpan asked beside recording) explained.rows.items

-- of a recording of which no submessage belongs to fragments the texts and endings are the same, whether fragments are read or not
abbrev pub StaysWithoutFragments : (AskedAudit → recording.RecordingValue → List ℕ → Ending → Type 0) → Type 0
StaysWithoutFragments IsText =
    (asked : AskedAudit) (recording : recording.RecordingValue) (text : List ℕ) (ending : Ending) → recorded_samples.IsWithoutFragments recording.datagrams
    → IsText (record asked { fragments = Fragments.Read }) recording text ending ↔ IsText (record asked { fragments = Fragments.Skipped }) recording text ending

-- the same is told of who does not talk
pub record TellSame (one other : talk.TalkValue) : Type 0 where
  pub ends : (guid : Guid) → one.ends guid ≡ other.ends guid
  pub node : (guid : Guid) → one.node guid ≡ other.node guid
  pub nodes : (prefix : GuidPrefix) → one.nodes prefix ≡ other.nodes prefix
  pub silence : (pair : Pair) → one.silence pair ≡ other.silence pair
  pub unmatched : one.unmatched ≡ other.unmatched
  pub talking : one.talking ≡ other.talking
  pub left_out : one.left_out ≡ other.left_out
  pub one_way : one.one_way ≡ other.one_way
  pub best_effort : one.best_effort ≡ other.best_effort
  pub best_effort_total : one.best_effort_total ≡ other.best_effort_total
  pub held : one.held ≡ other.held
  pub held_sums : one.held_sums ≡ other.held_sums
  pub held_total : one.held_total ≡ other.held_total
  pub ways : one.ways ≡ other.ways
  pub participants : one.participants ≡ other.participants
  pub not_told : one.not_told ≡ other.not_told
  pub lives : one.lives ≡ other.lives
  pub late : (pair : Pair) → one.late pair ≡ other.late pair

-- two reports tell the same
pub record AreSame (one other : full_report.ReportValue) : Type 0 where
  pub arrived : one.arrived ≡ other.arrived
  pub rows : full_report.rows_of one ≡ full_report.rows_of other
  pub lost : full_report.lost_of one ≡ full_report.lost_of other
  pub counts : one.explained.counts ≡ other.explained.counts
  pub order : one.order ≡ other.order
  pub ending : one.ending ≡ other.ending
  pub talk : TellSame one.talk other.talk

-- of what is asked of a recording, beside the same other recording, there is one report
abbrev pub HasOneFullReport : Type 0
HasOneFullReport =
    (asked : asked.AskedValue) (theirs : Option recording.RecordingValue) (recording : recording.RecordingValue) (one other : full_report.ReportValue)
    → full_report.IsFullReport asked theirs recording one → full_report.IsFullReport asked theirs recording other → AreSame one other

-- ---- what becomes of each match

-- exactly one of four holds
pub record IsOneOf (first second third fourth : Type 0) : Type 0 where
  pub some : first ⊎ (second ⊎ (third ⊎ fourth))
  pub first_alone : first → (¬ second) × (¬ third) × (¬ fourth)
  pub second_alone : second → (¬ third) × (¬ fourth)
  pub third_alone : third → ¬ fourth

-- there is a row of the pair
abbrev pub IsRowOf : full_report.ReportValue → Pair → Type 0
IsRowOf report pair = Contains (map (λ row. row.pair) (full_report.rows_of report)) pair

-- discovery finds the match in a recording, and it is asked for
pub record IsFoundIn (asked : asked.AskedValue) (recording : recording.RecordingValue) (directory : directory_spec.DirectoryValue) (found : Match) : Type 0 where
  pub is_map : directory_spec.IsMapOf (talk.traffic_of recording.datagrams).announcing directory
  pub among : Contains (matching.matches_among (directory_spec.settled_in directory.endpoints)) found
  pub chosen : talk.choice_of asked recording.datagrams directory.endpoints (explanation.topic_of (directory_spec.settled_at directory.endpoints found.pair.writer)) found.pair ≡ true

-- Each match that discovery finds and that is asked for is exactly one of these: a row, two that do not match
-- by all policies and do not talk, two that are left out, or two of best effort that are counted.
abbrev pub EachMatchIsTold : Type 0
EachMatchIsTold =
    (asked : asked.AskedValue) (other : Option recording.RecordingValue) (recording : recording.RecordingValue) (report : full_report.ReportValue) (directory : directory_spec.DirectoryValue) (found : Match)
    → full_report.IsFullReport asked other recording report → IsFoundIn asked recording directory found
    → let traffic = talk.traffic_of recording.datagrams in
    let chosen = talk.choice_of asked recording.datagrams directory.endpoints in
    let unfit = talk.unfit_in chosen traffic directory.endpoints in
    IsOneOf (IsRowOf report found.pair) (talk.is_unfit report.talk.unmatched found.pair ≡ true) (talk.is_left_out chosen traffic unfit directory.endpoints found ≡ true)
    (talk.is_counted chosen traffic unfit directory.endpoints found ≡ true)
