-- What a verdict rests on, beside what all rows have. own: each verdict can be checked by hand at the places that are named, and has
-- those of its own kind alone.
use Rattle.std.specs.Prelude.{ℕ, List, Option}
use Rattle.std.specs.Option.{option_map}
use Rattle.rtps_discovery.specs.declared.matching.Pair.{Pair}
use Rattle.rtps_audit.specs.Placed as placed
use Rattle.rtps_receiver.specs.Said as said
use Rattle.rtps_audit.specs.declared.verdict.Verdict.{Verdict}
use Rattle.rtps_evidence.specs.Locations as locations
use Rattle.rtps_evidence.specs.Questions as questions
use Rattle.rtps_evidence.specs.declared.acknowledgement.Claim.{Claim}
use Rattle.rtps_evidence.specs.declared.grounds.Grounds.{Grounds}
use Rattle.rtps_evidence.specs.declared.location.Location.{Location}
use Rattle.rtps_evidence.specs.declared.teller.Teller.{Teller}

-- by the kind of the verdict: nothing more; the teller of its number, how often the reader was asked since its last answer, and where
-- at first and at last; the first two payloads of its number that differ; the teller of its number, and the answer that claims it
pub data GroundsValue : Type 0 where
  CompleteGrounds : GroundsValue
  OpenGrounds : (teller : Option Teller) (count : ℕ) (first last : Option Location) → GroundsValue
  ConflictGrounds : (first other : Option locations.SentValue) → GroundsValue
  UnfoundedGrounds : (teller : Option Teller) (claim : Option Claim) → GroundsValue

-- the grounds of the code, as a value
abbrev pub grounds_value : Grounds → GroundsValue
grounds_value Grounds.Complete = CompleteGrounds
grounds_value (Grounds.Open teller count first last) = OpenGrounds teller count first last
grounds_value (Grounds.Conflict first other) = ConflictGrounds (option_map locations.sent_value first) (option_map locations.sent_value other)
grounds_value (Grounds.Unfounded teller claim) = UnfoundedGrounds teller claim

-- the number of a verdict; 0 for one below it
abbrev pub number_in : Verdict → ℕ
number_in (Verdict.Complete last) = said.natural last
number_in (Verdict.Open number) = said.natural number
number_in (Verdict.Conflict number) = said.natural number
number_in (Verdict.Unfounded datagram number) = said.natural number

-- what a verdict on a pair rests on, by these acts
abbrev pub grounds_by : Verdict → Pair → List placed.PlacedValue → GroundsValue
grounds_by (Verdict.Complete last) pair acts = CompleteGrounds
grounds_by (Verdict.Open number) pair acts =
    OpenGrounds (locations.teller_of pair.writer pair.reader (said.natural number) acts) (questions.asked_since pair.writer pair.reader acts)
    (questions.first_asked pair.writer pair.reader acts) (questions.last_asked pair.writer pair.reader acts)
grounds_by (Verdict.Conflict number) pair acts = ConflictGrounds (locations.first_sent pair.writer pair.reader (said.natural number) acts) (locations.other_sent pair.writer pair.reader (said.natural number) acts)
grounds_by (Verdict.Unfounded datagram number) pair acts =
    UnfoundedGrounds (locations.teller_of pair.writer pair.reader (said.natural number) acts) (locations.claim_of pair.writer pair.reader datagram (said.natural number) acts)
