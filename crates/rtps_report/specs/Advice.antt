-- What to do for a pair that is not clean. own: it is chosen by what the recording shows of the pair and its participants, by what was not
-- read of it, and by the first number asked for, so that one case has one advice. Two lives under one GUID come first, since all that is told of the pair
-- is of both; then who was killed or cut off, since nothing else of the pair needs a reason; then, of a reader that acknowledged nothing, that it was never
-- told of the writer; then what is lost or missed; then a tail; then what was told nowhere, since no answer can be owed for it; then what was asked. The
-- guide has the cases.
use Rattle.std.specs.Prelude.{ℕ, ℤ, ◌-◌, ◌^◌, ◌==◌, ◌&&◌, ◌||◌, not, nat_le, nat_lt, int_lt, Bool, true, false, if◌then◌else◌, length, Option, Some, None, is_none, is_some, unwrap_or}
use Rattle.std.specs.Option.{option_or}
use Rattle.rtps_receiver.specs.Said as said
use Rattle.rtps_wire.specs.Values as values
use Rattle.rtps_evidence.specs.declared.last_announcement.Announcement.{Announcement}
use Rattle.rtps_evidence.specs.declared.acknowledgement.Claim.{Claim}
use Rattle.rtps_evidence.specs.Grounds as grounds
use Rattle.rtps_evidence.specs.Explanation as explanation
use Rattle.rtps_evidence.specs.declared.first_missed.FirstMissed.{FirstMissed}
use Rattle.rtps_evidence.specs.declared.location.Location.{Location}
use Rattle.rtps_report.specs.declared.advice.Scope.{Scope}
use Rattle.rtps_evidence.specs.Locations as locations
use Rattle.rtps_evidence.specs.declared.teller.Teller.{Teller}
use Rattle.rtps_evidence.specs.Times as times_spec
use Rattle.rtps_report.specs.Reported as reported
use Rattle.rtps_report.specs.RowFacts as row_facts
use Rattle.rtps_report.specs.declared.advice.Advice.{Advice}
use Rattle.rtps_report.specs.declared.silences.Silences.{Silences}

-- of a pair whose participants are silent since these datagrams: first of its reader, then of its writer
abbrev pub ended_by : Option ℕ → Option ℕ → Option Advice
ended_by (Some last) writer = Some (Advice.ReaderEnded last)
ended_by None (Some last) = Some (Advice.WriterEnded last)
ended_by None None = None

-- the same of both participants of a pair
abbrev pub ended_advice : Silences → Option Advice
ended_advice silences = ended_by silences.reader silences.writer

-- the reader of a row knows its writer: it acknowledged a number of the row, or all before it
abbrev pub is_known : explanation.EvidenceValue → Bool
is_known evidence = is_some evidence.acknowledgement || row_facts.is_tail evidence

-- of a pair whose reader does not know the writer, where its participant was not told of endpoints of the writer's
abbrev pub not_told_advice : Bool → Bool → Option Advice
not_told_advice is_not_told known = if is_not_told && not known then Some Advice.NotAnnounced else None

-- of a pair by its participants alone: one has two lives, or is silent, or the reader's was not told of endpoints of the writer's
abbrev pub participant_advice : Silences → Bool → Option Advice
participant_advice silences known =
    if silences.is_twice then Some Advice.TwoLives else option_or (ended_advice silences) (not_told_advice silences.is_not_told known)

-- of a pair with missed numbers, by the least of them
abbrev pub missed_advice : FirstMissed → Advice
missed_advice first = if not first.is_sent then Advice.MissedUnsent else (if is_some first.again then Advice.MissedAgain else Advice.MissedOnce)

-- the first missed number was sent
abbrev pub is_first_sent : Option FirstMissed → Bool
is_first_sent None = false
is_first_sent (Some first) = first.is_sent

-- of a pair that is held: numbers that were sent did not arrive, and not only a tail
abbrev pub is_lost : explanation.EvidenceValue → Bool
is_lost evidence =
    let outcomes = row_facts.outcomes_of evidence in
    row_facts.is_held_in evidence.in_span && (not (row_facts.is_tail evidence)
    && (nat_lt 0 outcomes.likely || (nat_lt 0 outcomes.unanswered || (nat_lt 0 outcomes.unconfirmed || (nat_lt 0 outcomes.missed && is_first_sent evidence.first_missed)))))

-- of a pair with missed numbers or without, by the least of them. Where it is held, one may be missed and have arrived
abbrev pub missed_if : Bool → Option FirstMissed → Option Advice
missed_if false first = None
missed_if true None = None
missed_if true (Some first) = Some (missed_advice first)

-- of a pair of which numbers are lost or missed
abbrev pub loss_advice : explanation.EvidenceValue → Option Advice
loss_advice evidence = if is_lost evidence then Some Advice.Lost else missed_if (nat_lt 0 (row_facts.outcomes_of evidence).missed) evidence.first_missed

-- of a complete pair
abbrev pub complete_advice : explanation.EvidenceValue → Advice
complete_advice evidence = unwrap_or (loss_advice evidence) (if nat_lt 0 (row_facts.outcomes_of evidence).unsent then Advice.Unsent else Advice.Unanswered)

-- of an open pair whose number nothing tells
abbrev pub untold_open_advice : Scope → Advice
untold_open_advice scope = if scope.unread then Advice.OpenUnread else Advice.OpenUntold

-- a time is in the last second before the end, where there are both
abbrev pub is_last_second : Option ℕ → Option ℕ → Bool
is_last_second None end = false
is_last_second (Some time) None = false
is_last_second (Some time) (Some end) = nat_le (end - time) (10 ^ 9)

-- a datagram came in the last second of the recording
abbrev pub came_last : times_spec.TimesValue → ℕ → Bool
came_last times datagram = is_last_second (times_spec.time_of times.of_datagrams datagram) times.end

-- of an open pair whose reader acknowledged nothing, and of another one, by whether the reader left: it was not asked since its last answer
abbrev pub unasked_advice : Bool → Bool → Advice
unasked_advice acknowledged left = if not acknowledged && left then Advice.Left else Advice.NotAsked

-- the same of one that was asked, at first in this datagram
abbrev pub unanswered_advice : times_spec.TimesValue → Bool → ℕ → Advice
unanswered_advice times acknowledged datagram =
    if came_last times datagram then Advice.JustAsked else (if acknowledged then Advice.Silent else Advice.NeverAnswered)

-- of an open pair whose number is told, by where its reader was asked first since its last answer
abbrev pub asked_advice : times_spec.TimesValue → explanation.EvidenceValue → Option Location → Advice
asked_advice times evidence None = unasked_advice (is_some evidence.acknowledgement) (is_some (row_facts.left_in evidence.in_span))
asked_advice times evidence (Some first) = unanswered_advice times (is_some evidence.acknowledgement) first.datagram

-- two payloads are of one kind and have as many octets
abbrev pub are_alike : values.PayloadValue → values.PayloadValue → Bool
are_alike values.PayloadValue.Absent values.PayloadValue.Absent = true
are_alike (values.PayloadValue.Whole one) (values.PayloadValue.Whole other) = length other == length one
are_alike (values.PayloadValue.Key one) (values.PayloadValue.Key other) = length other == length one
are_alike one other = false

-- the same of payloads that may not be there
abbrev pub are_carried_alike : Option values.PayloadValue → Option values.PayloadValue → Bool
are_carried_alike (Some one) (Some other) = are_alike one other
are_carried_alike one other = false

-- and of what was sent
abbrev pub are_sent_alike : Option locations.SentValue → Option locations.SentValue → Bool
are_sent_alike (Some one) (Some other) = are_carried_alike one.payload other.payload
are_sent_alike one other = false

-- of a pair with two payloads for one number
abbrev pub conflict_advice : Option locations.SentValue → Option locations.SentValue → Advice
conflict_advice first other = if are_sent_alike first other then Advice.Alike else Advice.Unlike

-- what tells the number stands in the datagram of the answer that claims it
abbrev pub stand_together : Option Teller → Option Claim → Bool
stand_together (Some teller) (Some claim) = teller.place.datagram == claim.place.datagram
stand_together teller claim = false

-- a number is above the last announced one
abbrev pub is_above : Option Announcement → ℤ → Bool
is_above None number = true
is_above (Some announcement) number = int_lt announcement.number number

-- of an unfounded pair, by what told its number, and by the answer that claims it
abbrev pub unfounded_advice : Scope → explanation.EvidenceValue → Option Teller → Option Claim → Advice
unfounded_advice scope evidence teller claim =
    if stand_together teller claim then Advice.Relayed
    else (if scope.unread then Advice.UnfoundedUnread
    else (if is_none teller then (if is_above evidence.announcement (reported.number_of evidence.verdict) then Advice.Unannounced
    else (if (said.natural (reported.number_of evidence.verdict) == row_facts.row_from scope.from evidence.in_span) && not (row_facts.is_joined_in evidence.in_span) then Advice.BeganLate else Advice.Lacking)) else Advice.Late))

-- of an open pair, by what told its number, and where its reader was asked first since its last answer
abbrev pub open_advice : times_spec.TimesValue → Scope → explanation.EvidenceValue → Option Teller → Option Location → Advice
open_advice times scope evidence teller first =
    unwrap_or (loss_advice evidence) (if row_facts.is_tail evidence then Advice.Tail else (if is_none teller then untold_open_advice scope else asked_advice times evidence first))

-- what to do for a pair whose verdict rests on this, where nobody is silent
abbrev pub advice_by : times_spec.TimesValue → Scope → explanation.EvidenceValue → grounds.GroundsValue → Advice
advice_by times scope evidence grounds.GroundsValue.CompleteGrounds = complete_advice evidence
advice_by times scope evidence (grounds.GroundsValue.OpenGrounds teller count first last) = open_advice times scope evidence teller first
advice_by times scope evidence (grounds.GroundsValue.ConflictGrounds first other) = conflict_advice first other
advice_by times scope evidence (grounds.GroundsValue.UnfoundedGrounds teller claim) = unfounded_advice scope evidence teller claim

-- what to do where this would be done of a pair whose two did not match late: what lacks was written before they matched
abbrev pub late_advice : Bool → Advice → Advice
late_advice true Advice.Unsent = Advice.MatchedLate
late_advice true Advice.MissedUnsent = Advice.MatchedLate
late_advice late advice = advice

-- what to do for a pair, of whose participants this is known
abbrev pub advice_of : times_spec.TimesValue → Silences → Scope → explanation.EvidenceValue → Advice
advice_of times silences scope evidence =
    unwrap_or (participant_advice silences (is_known evidence)) (late_advice silences.matched_late (advice_by times scope evidence evidence.grounds))

-- the last datagram of the participant that ended, where the advice is of one
abbrev pub ended_in : Advice → Option ℕ
ended_in (Advice.ReaderEnded last) = Some last
ended_in (Advice.WriterEnded last) = Some last
ended_in advice = None
