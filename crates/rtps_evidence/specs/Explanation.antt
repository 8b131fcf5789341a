-- Why each pair of a recording has its verdict. own: the pairs and the counts are those of a report; each pair has the
-- topic and the type of its two, and its evidence.
use Rattle.std.specs.Prelude.{ℕ, Bool, false, ⊤, ◌≡◌, List, [], ◌∷◌, All, length, map, slice_get, Option, Some, None}
use Rattle.std.specs.List.{range_with_len}
use Rattle.rtps_discovery.specs.Directory as directory_spec
use Rattle.rtps_discovery.specs.Endpoint as endpoint
use Rattle.rtps_discovery.specs.Matching as matching
use Rattle.rtps_discovery.specs.declared.matching.Pair.{Pair}
use Rattle.rtps_audit.specs.Intake as intake_spec
use Rattle.rtps_audit.specs.Report as report_spec
use Rattle.rtps_audit.specs.declared.report.Report.{Report}
use Rattle.rtps_audit.specs.declared.report.Row.{Row}
use Rattle.rtps_audit.specs.declared.verdict.Verdict.{Verdict}
use Rattle.rtps_fragments.specs.SampleReport as sample_report
use Rattle.rtps_evidence.specs.Evidence as evidence
use Rattle.rtps_evidence.specs.Grounds as grounds
use Rattle.rtps_evidence.specs.Kinds as kinds
use Rattle.rtps_evidence.specs.OtherSide as other_side
use Rattle.rtps_evidence.specs.Spans as spans_spec
use Rattle.rtps_evidence.specs.declared.last_announcement.Announcement.{Announcement}
use Rattle.rtps_evidence.specs.declared.acknowledgement.Claim.{Claim}
use Rattle.rtps_evidence.specs.declared.explanation.Explained.{Explained}
use Rattle.rtps_evidence.specs.declared.explanation.Explanation.{Explanation}
use Rattle.rtps_evidence.specs.declared.first_missed.FirstMissed.{FirstMissed}
use Rattle.rtps_evidence.specs.declared.not_received.NotReceived.{NotReceived}
use Rattle.rtps_evidence.specs.declared.evidence.Evidence.{Evidence}
use Rattle.rtps_evidence.specs.declared.in_span.InSpan.{InSpan}
use Rattle.rtps_evidence.specs.declared.span.Span.{Span}

-- evidence, with lists of octets where the type holds parts of the caller's datagrams
pub record EvidenceValue : Type 0 where
  pub verdict : Verdict
  pub announcement : Option Announcement
  pub acknowledgement : Option Claim
  pub payloads : ℕ
  pub gone : ℕ
  pub untold : ℕ
  pub received : ℕ
  pub not_received : Option NotReceived
  pub missed : ℕ
  pub first_missed : Option FirstMissed
  pub grounds : grounds.GroundsValue
  pub in_span : Option InSpan

-- the evidence of the code, as a value
abbrev pub evidence_value : Evidence → EvidenceValue
evidence_value evidence =
    record {
      verdict = evidence.verdict;
      announcement = evidence.announcement;
      acknowledgement = evidence.acknowledgement;
      payloads = evidence.payloads;
      gone = evidence.gone;
      untold = evidence.untold;
      received = evidence.received;
      not_received = evidence.not_received;
      missed = evidence.missed;
      first_missed = evidence.first_missed;
      grounds = grounds.grounds_value evidence.grounds;
      in_span = evidence.in_span;
    }

-- a pair, what its two are about, and its evidence
pub record ExplanationValue : Type 0 where
  pub pair : Pair
  pub topic : List ℕ
  pub type_name : List ℕ
  pub evidence : EvidenceValue
  pub place : ℕ

-- a row of the code, as a value
abbrev pub explanation_value : Explanation → ExplanationValue
explanation_value explanation =
    record {
      pair = explanation.pair;
      topic = explanation.topic.now;
      type_name = explanation.type_name.now;
      evidence = evidence_value explanation.evidence;
      place = explanation.place;
    }

-- the topic of an endpoint, empty where there is no endpoint
abbrev pub topic_of : Option endpoint.EndpointValue → List ℕ
topic_of None = []
topic_of (Some endpoint) = endpoint.topic

-- the type of an endpoint, empty where there is no endpoint
abbrev pub type_of : Option endpoint.EndpointValue → List ℕ
type_of None = []
type_of (Some endpoint) = endpoint.type_name

-- The topic and the type are those of the pair's writer. Those of its reader are the same where the two match
pub record IsNamed (entries : directory_spec.Entries) (explanation : Explanation) : Type 0 where
  pub topic : explanation.topic.now ≡ topic_of (directory_spec.settled_at entries explanation.pair.writer)
  pub type_name : explanation.type_name.now ≡ type_of (directory_spec.settled_at entries explanation.pair.writer)

-- the row of the report that is explained
abbrev pub row_of : Explanation → Row
row_of explanation = record { pair = explanation.pair; verdict = explanation.evidence.verdict }

-- These are the numbers of a row that are lost, or look so, by the numbers from `from` on: where rows are in spans, those of the datagrams of
-- the span, by the span's numbers. Another recording and times may stand beside.
pub record IsLostBy (spans : Bool) (from : ℕ) (beside : other_side.Beside) (intake : intake_spec.Intake) (pair : Pair) (lost : kinds.LostValue) : Type 0 where
  pub span : Span
  pub extent : spans_spec.IsExtent spans from pair intake span
  pub losses : kinds.IsLostIn spans beside span pair intake.acts (spans_spec.heard_in span pair intake.acts) lost

-- those of the rows of these pairs, one after another
abbrev pub AreLostOf : Bool → ℕ → other_side.Beside → intake_spec.Intake → List Pair → List kinds.LostValue → Type 0
AreLostOf spans from beside intake [] [] = ⊤
AreLostOf spans from beside intake (pair ∷ pairs) (lost ∷ others) = IsLostBy spans from beside intake pair lost × AreLostOf spans from beside intake pairs others
AreLostOf spans from beside intake [] (lost ∷ others) = ⊥
AreLostOf spans from beside intake (pair ∷ pairs) [] = ⊥

-- those that there are; none, where there are none
abbrev pub lost_or : Option kinds.LostValue → kinds.LostValue
lost_or None = kinds.none_lost
lost_or (Some lost) = lost

-- those of the row of this place, if there is one
abbrev pub lost_at : List kinds.LostValue → ℕ → kinds.LostValue
lost_at losts place = lost_or (slice_get losts place)

-- These are rows of these pairs, of whatever writers and readers: each has its names, its evidence by the numbers from `from` on, and its
-- place among them, by which its lost numbers are found. Another recording and times may stand beside.
pub record AreExplained (spans : Bool) (from : ℕ) (beside : other_side.Beside) (intake : intake_spec.Intake) (pairs : List Pair) (rows : List Explanation) (lost : List kinds.LostValue) : Type 0 where
  pub of_pairs : map (λ row. row.pair) rows ≡ pairs
  pub places : map (λ row. row.place) rows ≡ range_with_len 0 (length rows)
  pub losses : AreLostOf spans from beside intake pairs lost
  pub directory : directory_spec.DirectoryValue
  pub is_map : directory_spec.IsMapOf (intake_spec.acts_together intake.announcing) directory
  pub named : All (IsNamed directory.endpoints) rows
  pub shown : All (λ row. evidence.IsEvidenceBy spans from beside row.pair intake row.evidence) rows

-- The rows are of the reliable pairs of all that the intake announces, by writer and then by reader, and of no others, each with its names and
-- its evidence by the numbers from `from` on. The counts are those of a report. Another recording and times may stand beside.
pub record IsExplainedBy (spans : Bool) (from : ℕ) (beside : other_side.Beside) (intake : intake_spec.Intake) (explained : Explained) : Type 0 where
  pub directory : directory_spec.DirectoryValue
  pub is_map : directory_spec.IsMapOf (intake_spec.acts_together intake.announcing) directory
  pub pairs : List Pair
  pub are_pairs : pairs ≡ matching.reliable_pairs (matching.matches_among (directory_spec.settled_in directory.endpoints))
  pub rows : AreExplained spans from beside intake pairs explained.rows.items (map kinds.lost_value explained.lost.items)
  pub counts : explained.counts ≡ report_spec.counts_of intake (length (directory_spec.unsettled_in directory.endpoints))

-- that of a recording alone, which is the octets of its datagrams in the order of sending
abbrev pub IsExplainedFrom : Bool → ℕ → List (List ℕ) → Explained → Type 0
IsExplainedFrom spans from recording explained = IsExplainedBy spans from other_side.alone (intake_spec.intake_of recording) explained

-- where rows are in no span, they are those of the report by what each reader hears, and so are the counts
abbrev pub RowsAreReported : Type 0
RowsAreReported =
    (from : ℕ) (beside : other_side.Beside) (intake : intake_spec.Intake) (explained : Explained) (report : Report) → IsExplainedBy false from beside intake explained → sample_report.IsReportHeard from intake report
    → (map row_of explained.rows.items ≡ report.rows.items) × (explained.counts ≡ report.counts)

-- what is taken in is explained in one way, beside the same other recording and the same times: the same rows, and the same counts. So is a recording
abbrev pub HasOneExplanation : Type 0
HasOneExplanation =
    (spans : Bool) (from : ℕ) (beside : other_side.Beside) (intake : intake_spec.Intake) (one other : Explained)
    → IsExplainedBy spans from beside intake one → IsExplainedBy spans from beside intake other
    → (map explanation_value one.rows.items ≡ map explanation_value other.rows.items) × (one.counts ≡ other.counts)

-- so are pairs of what is taken in, and their lost numbers
abbrev pub PairsHaveOneExplanation : Type 0
PairsHaveOneExplanation =
    (spans : Bool) (from : ℕ) (beside : other_side.Beside) (intake : intake_spec.Intake) (pairs : List Pair) (one other : List Explanation) (lost losses : List kinds.LostValue)
    → AreExplained spans from beside intake pairs one lost → AreExplained spans from beside intake pairs other losses
    → (map explanation_value one ≡ map explanation_value other) × (lost ≡ losses)
