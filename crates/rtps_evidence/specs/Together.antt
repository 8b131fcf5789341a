-- The pairs of one writer, judged by what is taken in. own: what is known of each pair of them stands in one place, from what its row is by to
-- what is found.
use Rattle.std.specs.Prelude.{ℕ, Bool, true, false, ◌≡◌, IfSome, [], filter, map, List}
use Rattle.rtps_ids.specs.declared.identity.Guid.{Guid}
use Rattle.rtps_discovery.specs.declared.matching.Pair.{Pair}
use Rattle.rtps_audit.specs.Intake as intake_spec
use Rattle.rtps_audit.specs.Placed as placed
use Rattle.rtps_audit.specs.RunVerdict as run_verdict
use Rattle.rtps_audit.specs.Said as said
use Rattle.rtps_audit.specs.Speech as speech
use Rattle.rtps_fragments.specs.Hearing as hearing
use Rattle.rtps_evidence.specs.Cases as cases
use Rattle.rtps_evidence.specs.Ears as ears
use Rattle.rtps_evidence.specs.Evidence as evidence
use Rattle.rtps_evidence.specs.Explanation as explanation
use Rattle.rtps_evidence.specs.Heard as heard
use Rattle.rtps_evidence.specs.Kinds as kinds
use Rattle.rtps_evidence.specs.OtherSide as other_side
use Rattle.rtps_evidence.specs.Spans as spans_spec
use Rattle.rtps_evidence.specs.declared.brief.Brief.{Brief}
use Rattle.rtps_evidence.specs.declared.case.Case.{Case}
use Rattle.rtps_evidence.specs.declared.docket.Docket.{Docket}
use Rattle.rtps_evidence.specs.declared.evidence.Found.{Found}
use Rattle.rtps_evidence.specs.declared.explanation.ExplainedRows.{ExplainedRows}
use Rattle.rtps_evidence.specs.declared.hearer.Hearer.{Hearer}
use Rattle.rtps_evidence.specs.declared.leaving_ear.LeavingEar.{LeavingEar}
use Rattle.rtps_evidence.specs.declared.other_side.Sides.{Sides}

-- what rows are by: whether they are in spans, the first number, what is taken in, and what stands beside it
pub record Setting : Type 0 where
  pub spans : Bool
  pub from : ℕ
  pub beside : other_side.Beside
  pub intake : intake_spec.Intake

-- the code has that
abbrev pub AreSidesIn : Setting → Sides → Type 0
AreSidesIn setting sides = other_side.AreSides setting.intake setting.beside sides

-- what the row of a pair is by, and what another recording has of it
pub record IsDocket (setting : Setting) (docket : Docket) : Type 0 where
  pub in_spans : docket.judgement.in_spans ≡ setting.spans
  pub extent : spans_spec.IsExtent setting.spans setting.from docket.judgement.pair setting.intake docket.judgement.span
  pub plain : docket.judgement.is_plain ≡ true → hearing.have_fragments (filter (placed.is_from docket.judgement.pair.reader) (placed.placed_in setting.intake.acts)) ≡ false
  pub known : IfSome docket.judgement.known (evidence.IsVerdictIn docket.judgement.span docket.judgement.pair setting.intake.acts)
  pub there : other_side.AreThere setting.intake.acts setting.beside.other docket.judgement.pair docket.arrivals.way docket.arrivals.is_held docket.arrivals.numbers.items

-- what is taken in has no fragments that this one sends
abbrev pub is_plain : Setting → Guid → Type 0
is_plain setting guid = hearing.have_fragments (filter (placed.is_from guid) (placed.placed_in setting.intake.acts)) ≡ false

-- what a pair of this writer said, where neither of the two sends fragments, and its verdict
pub record IsBrief (setting : Setting) (writer : Guid) (brief : Brief) : Type 0 where
  pub of_writer : brief.exchange.pair.writer ≡ writer
  pub in_spans : brief.exchange.in_spans ≡ setting.spans
  pub extent : spans_spec.IsExtent setting.spans setting.from brief.exchange.pair setting.intake brief.exchange.span
  pub sent : map placed.placed_value brief.exchange.said.acts.now ≡ filter (ears.is_until brief.exchange.span.until) (filter (placed.is_from writer) (placed.placed_in setting.intake.acts))
  pub said : said.IsSaid brief.exchange.pair (spans_spec.heard_in brief.exchange.span brief.exchange.pair setting.intake.acts) brief.exchange.said
  pub judged : run_verdict.IsVerdictFrom brief.exchange.span.from (speech.speech_by brief.exchange.pair.writer brief.exchange.pair.reader (spans_spec.heard_in brief.exchange.span brief.exchange.pair setting.intake.acts)) brief.verdict
  pub there : other_side.AreThere setting.intake.acts setting.beside.other brief.exchange.pair brief.exchange.way brief.exchange.is_held brief.exchange.there.now
  pub times : brief.exchange.times.now.of_datagrams ≡ setting.beside.times

-- the acts of its writer that a pair is judged by
abbrev pub acts_of : Brief → List placed.PlacedValue
acts_of brief = map placed.placed_value brief.exchange.said.acts.now

-- a reader that heard nothing yet, and leaves where its row ends
pub record IsReady (setting : Setting) (writer : Guid) (leaving : LeavingEar Hearer) : Type 0 where
  pub until : leaving.until ≡ leaving.ear.brief.exchange.span.until
  pub brief : IsBrief setting writer leaving.ear.brief
  pub heard : heard.IsHeard leaving.ear.brief.exchange [] leaving.ear.heard

-- one that heard all that it is judged by
pub record IsTold (setting : Setting) (writer : Guid) (leaving : LeavingEar Hearer) : Type 0 where
  pub until : leaving.until ≡ leaving.ear.brief.exchange.span.until
  pub brief : IsBrief setting writer leaving.ear.brief
  pub heard : heard.IsHeard leaving.ear.brief.exchange (acts_of leaving.ear.brief) leaving.ear.heard

-- a case that heard nothing again yet
pub record IsOpened (setting : Setting) (writer : Guid) (leaving : LeavingEar Case) : Type 0 where
  pub until : leaving.until ≡ leaving.ear.brief.exchange.span.until
  pub brief : IsBrief setting writer leaving.ear.brief
  pub case : cases.IsCase [] leaving.ear

-- one that heard all again
pub record IsClosed (setting : Setting) (leaving : LeavingEar Case) : Type 0 where
  pub writer : Guid
  pub brief : IsBrief setting writer leaving.ear.brief
  pub case : cases.IsCase (acts_of leaving.ear.brief) leaving.ear

-- the pair of an ear
abbrev pub reader_pair : LeavingEar Hearer → Pair
reader_pair leaving = leaving.ear.brief.exchange.pair

abbrev pub case_pair : LeavingEar Case → Pair
case_pair leaving = leaving.ear.brief.exchange.pair

-- the evidence of a pair, and its lost numbers
pub record IsFound (setting : Setting) (pair : Pair) (found : Found) : Type 0 where
  pub evidence : evidence.IsEvidenceBy setting.spans setting.from setting.beside pair setting.intake found.evidence
  pub lost : explanation.IsLostBy setting.spans setting.from setting.beside setting.intake pair (kinds.lost_value found.lost)

-- the rows of these pairs
abbrev pub AreRows : Setting → List Pair → ExplainedRows → Type 0
AreRows setting pairs found = explanation.AreExplained setting.spans setting.from setting.beside setting.intake pairs found.rows.items (map kinds.lost_value found.lost.items)
