-- What a row says of its numbers, in a span or by the whole recording.
-- own: what is not asked for is not told: of a row that is in no span, what is received and what is missed, and no more.
use Rattle.std.specs.Prelude.{ℕ, ◌+◌, ◌-◌, Bool, false, ◌&&◌, ◌==◌, is_some, nat_le, nat_lt, not, Option, None, Some}
use Rattle.rtps_evidence.specs.Clean as clean
use Rattle.rtps_evidence.specs.declared.way.Way.{Way}
use Rattle.rtps_receiver.specs.Said as said
use Rattle.rtps_report.specs.Reported as reported
use Rattle.rtps_report.specs.Silences as silences_spec
use Rattle.rtps_evidence.specs.declared.last_announcement.Announcement.{Announcement}
use Rattle.rtps_evidence.specs.Explanation as explanation
use Rattle.rtps_evidence.specs.declared.in_span.InSpan.{InSpan}
use Rattle.rtps_evidence.specs.declared.outcome.Outcomes.{Outcomes}
use Rattle.rtps_audit.specs.declared.verdict.Verdict.{Verdict}
use Rattle.rtps_report.specs.declared.silences.Silences.{Silences}

-- how many numbers are asked about: those from `from` on, up to the last announced one
abbrev pub asked_about : ℕ → Option Announcement → ℕ
asked_about from None = 0
asked_about from (Some announcement) = said.natural announcement.number + 1 - from

-- the number from which on a row is, where numbers are asked for from `from` on
abbrev pub row_from : ℕ → Option InSpan → ℕ
row_from from None = from
row_from from (Some in_span) = in_span.from

-- the datagram in which its reader leaves; None where it does not, or where that is not asked
abbrev pub left_in : Option InSpan → Option ℕ
left_in None = None
left_in (Some in_span) = in_span.until

-- its reader joined in this recording, where that is asked
abbrev pub is_joined_in : Option InSpan → Bool
is_joined_in None = false
is_joined_in (Some in_span) = in_span.is_joined_here

-- its pair is held against another recording
abbrev pub is_held_in : Option InSpan → Bool
is_held_in None = false
is_held_in (Some in_span) = in_span.is_held

-- which way round the two recordings are by its pair; None where there is one alone, or the other one has nothing of the pair
abbrev pub way_in : Option InSpan → Option Way
way_in None = None
way_in (Some in_span) = in_span.way

-- how many numbers are received for certain though the other recording has none of them
abbrev pub absent_in : Option InSpan → ℕ
absent_in None = 0
absent_in (Some in_span) = in_span.absent

-- what became of its numbers, of which so many are received and missed
abbrev pub outcomes_by : ℕ → ℕ → Option InSpan → Outcomes
outcomes_by received missed None =
    record { received = received; arrived = 0; missed = missed; unsent = 0; unanswered = 0; likely = 0; unconfirmed = 0 }
outcomes_by received missed (Some in_span) = in_span.outcomes

-- those of a row
abbrev pub outcomes_of : explanation.EvidenceValue → Outcomes
outcomes_of evidence = outcomes_by evidence.received evidence.missed evidence.in_span

-- it is clean, where a tail may have so many numbers; in no span, where it is complete and nothing is missed
abbrev pub is_clean_by : ℕ → Verdict → ℕ → Option InSpan → Bool
is_clean_by tail verdict missed None = reported.is_complete verdict && (missed == 0)
is_clean_by tail verdict missed (Some in_span) = clean.is_clean tail (is_some in_span.until) in_span.is_held verdict in_span.outcomes in_span.from in_span.base

-- the same of a row
abbrev pub is_clean : ℕ → explanation.EvidenceValue → Bool
is_clean tail evidence = is_clean_by tail evidence.verdict evidence.missed evidence.in_span

-- what it lacks is a tail alone
abbrev pub is_tail_by : Verdict → Option InSpan → Bool
is_tail_by verdict None = false
is_tail_by verdict (Some in_span) = clean.is_tail in_span.is_held verdict in_span.outcomes in_span.from in_span.base

-- the same of a row
abbrev pub is_tail : explanation.EvidenceValue → Bool
is_tail evidence = is_tail_by evidence.verdict evidence.in_span

-- it is not clean for that alone, and neither the writer's participant nor the reader's is silent
abbrev pub is_tail_alone : Silences → ℕ → explanation.EvidenceValue → Bool
is_tail_alone silences tail evidence = not (is_clean tail evidence) && (is_tail evidence && silences_spec.are_heard silences)

-- it is clean with a tail, which has numbers: where all of them arrived, nothing is lacking
abbrev pub is_clean_tail : ℕ → explanation.EvidenceValue → Bool
is_clean_tail tail evidence = is_clean tail evidence && (is_tail evidence && nat_lt 0 (outcomes_of evidence).unconfirmed)

-- someone has to look at it
abbrev pub is_noted : Silences → ℕ → explanation.EvidenceValue → Bool
is_noted silences tail evidence = not (is_clean tail evidence) && not (is_tail_alone silences tail evidence)

-- the writer of a row announced numbers, all of them stand before it, and no answer claims a number of it
abbrev pub wrote_before_in : Option InSpan → Bool
wrote_before_in None = false
wrote_before_in (Some in_span) = in_span.wrote_before && nat_le in_span.base in_span.from

-- the same of a complete row that does not begin with the first number that is asked for
abbrev pub is_late : ℕ → explanation.EvidenceValue → Bool
is_late from evidence = reported.is_complete evidence.verdict && (wrote_before_in evidence.in_span && nat_lt from (row_from from evidence.in_span))

-- each of its numbers is received for certain
abbrev pub is_certain : ℕ → explanation.EvidenceValue → Bool
is_certain from evidence = nat_le (asked_about (row_from from evidence.in_span) evidence.announcement) (outcomes_of evidence).received
