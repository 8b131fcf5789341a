-- The lines that `why` and `check` print alike of a row. own: one space stands between fields, so that common tools can take a line
-- apart. A place is the number of a datagram, from 1, and that of a submessage's first octet in it, from 0, as `show` writes them. Behind it
-- stand the frame of its datagram, where that has one, and its second, where it has a time: that is counted from the start of the capture.
use Rattle.std.specs.Prelude.{ℕ, ℤ, ◌++◌, ◌/◌, ◌%◌, if◌then◌else◌, List, [], ◌∷◌, codes, length, Option, None, Some, unwrap_or}
use Rattle.std.specs.Fmt.{decimal, signed_decimal}
use Rattle.rtps_wire.specs.Values as values
use Rattle.rtps_evidence.specs.declared.last_announcement.Announcement.{Announcement}
use Rattle.rtps_evidence.specs.declared.acknowledgement.Claim.{Claim}
use Rattle.rtps_evidence.specs.declared.first_missed.FirstMissed.{FirstMissed}
use Rattle.rtps_evidence.specs.declared.location.Location.{Location}
use Rattle.rtps_evidence.specs.Locations as locations
use Rattle.rtps_evidence.specs.declared.teller.Teller.{Teller}
use Rattle.rtps_audit.specs.declared.verdict.Verdict.{Verdict}
use Rattle.rtps_ids.specs.declared.identity.Guid.{Guid}
use Rattle.rtps_parts.specs.Names as names
use Rattle.rtps_parts.specs.Parts as parts
use Rattle.rtps_policies.specs.AddressText as address_text
use Rattle.rtps_policies.specs.declared.host.Address.{Address}
use Rattle.rtps_evidence.specs.declared.location.Kind.{Kind}
use Rattle.rtps_evidence.specs.declared.times.Seconds.{Seconds}
use Rattle.rtps_evidence.specs.declared.waits.Wait.{Wait}
use Rattle.rtps_evidence.specs.Times as times_spec
use Rattle.rtps_report.specs.Advice as report_advice
use Rattle.rtps_report.specs.declared.advice.Advice.{Advice}
use Rattle.rtps_report.specs.declared.silences.Silences.{Silences}
use Rattle.rtps_discovery.specs.declared.endpoint.Side.{Side}
use Rattle.rtps_lines.specs.AdviceText as advice_text_spec
use Rattle.rtps_lines.specs.QosNames as qos_names
use Rattle.rtps_lines.specs.declared.sentences.advice.TheConstants as said

-- a line of fields: a space (32) after each, but a line feed (10) after the last
abbrev pub line_of : List (List ℕ) → List ℕ
line_of [] = 10 ∷ []
line_of (field ∷ []) = field ++ 10 ∷ []
line_of (field ∷ next ∷ fields) = field ++ 32 ∷ line_of (next ∷ fields)

-- the kind of a payload, and how many octets it has
unfoldable pub payload_text : values.PayloadValue → List ℕ
payload_text values.PayloadValue.Absent = codes "absent"
payload_text (values.PayloadValue.Whole octets) = codes "whole " ++ decimal (length octets)
payload_text (values.PayloadValue.Key octets) = codes "key " ++ decimal (length octets)

-- the number behind `complete` is the last announced one, and each other is the least that shows the verdict
unfoldable pub verdict_text : Verdict → List ℕ
verdict_text (Verdict.Complete last) = codes "complete " ++ signed_decimal last
verdict_text (Verdict.Open number) = codes "open " ++ signed_decimal number
verdict_text (Verdict.Conflict number) = codes "conflict " ++ signed_decimal number
verdict_text (Verdict.Unfounded datagram number) = codes "unfounded " ++ (decimal datagram ++ 32 ∷ signed_decimal number)

-- a line behind two spaces
abbrev pub inner_line : List (List ℕ) → List ℕ
inner_line fields = 32 ∷ 32 ∷ line_of fields

-- the submessage, by the name that `show` gives it
unfoldable pub kind_text : Kind → List ℕ
kind_text Kind.Data = codes "data"
kind_text Kind.Heartbeat = codes "heartbeat"
kind_text Kind.AckNack = codes "acknack"
kind_text Kind.Gap = codes "gap"
kind_text Kind.DataFrag = codes "data_frag"
kind_text Kind.NackFrag = codes "nack_frag"

-- the last three digits of a number
abbrev pub three_places : ℕ → List ℕ
three_places n = decimal (n / 100 % 10) ++ (decimal (n / 10 % 10) ++ decimal (n % 10))

-- a time in nanoseconds since 1970 began, in seconds since the recording began
abbrev pub sent_second : times_spec.TimesValue → ℕ → Seconds
sent_second times time = times_spec.seconds_between (unwrap_or times.start 0) time

-- a time in seconds, with three places
unfoldable pub seconds_text : Seconds → List ℕ
seconds_text time =
    (if time.negative then codes "-" else []) ++ (decimal (time.milliseconds / 1000) ++ (codes "." ++ three_places time.milliseconds))

-- when a datagram came, in seconds since the start; None where it has no time
abbrev pub second_in : times_spec.TimesValue → ℕ → Option Seconds
second_in times datagram = times_spec.second_of times.start (times_spec.time_of times.of_datagrams datagram)

-- a second behind what it is of; nothing where there is none
unfoldable pub second_behind : Option Seconds → List ℕ
second_behind None = []
second_behind (Some second) = codes ", " ++ (seconds_text second ++ codes " s")

-- the number of a frame behind what it is of; nothing where there is none
unfoldable pub frame_behind : Option ℕ → List ℕ
frame_behind None = []
frame_behind (Some frame) = codes ", frame " ++ decimal frame

-- what is said behind a datagram: its frame, where it has one, and its second, where it has a time
abbrev pub second_text : times_spec.TimesValue → ℕ → List ℕ
second_text times datagram = frame_behind (times_spec.frame_of times.frames datagram) ++ second_behind (second_in times datagram)

-- where an act stands in the recording, and when its datagram came
unfoldable pub place_text : times_spec.TimesValue → Location → List ℕ
place_text times place =
    codes "in datagram " ++ (decimal place.datagram ++ (codes " at " ++ (decimal place.at ++ second_text times place.datagram)))

-- the line of the last number that the writer announced, and of the submessage that did so first
abbrev pub announced_line : times_spec.TimesValue → Option Announcement → List ℕ
announced_line times None = inner_line (codes "announced nothing" ∷ [])
announced_line times (Some announcement) =
    inner_line (codes "announced" ∷ signed_decimal announcement.number ∷ codes "by" ∷ kind_text announcement.kind ∷ place_text times announcement.place ∷ [])

-- the line of the greatest base of the reader's answers, and of the answer that had it first
abbrev pub acknowledged_line : times_spec.TimesValue → Option Claim → List ℕ
acknowledged_line times None = inner_line (codes "acknowledged nothing" ∷ [])
acknowledged_line times (Some claim) = inner_line (codes "acknowledged below" ∷ signed_decimal claim.below ∷ place_text times claim.place ∷ [])

-- the line of a number and of the submessage that told it first, if one did
abbrev pub told_line : times_spec.TimesValue → ℤ → Option Teller → List ℕ
told_line times number None = inner_line (codes "number" ∷ signed_decimal number ∷ codes "told nowhere" ∷ [])
told_line times number (Some teller) =
    inner_line (codes "number" ∷ signed_decimal number ∷ codes "told by" ∷ kind_text teller.kind ∷ place_text times teller.place ∷ [])

-- the line of the answer that claimed a number too early, if there is one
abbrev pub claimed_line : times_spec.TimesValue → Option Claim → List ℕ
claimed_line times None = []
claimed_line times (Some claim) = inner_line (codes "claimed below" ∷ signed_decimal claim.below ∷ place_text times claim.place ∷ [])

-- a payload, if there is one
abbrev pub carried_text : Option values.PayloadValue → List ℕ
carried_text None = []
carried_text (Some payload) = payload_text payload

-- the line of a payload that was sent for a number, if one was
abbrev pub sent_line : times_spec.TimesValue → ℤ → Option locations.SentValue → List ℕ
sent_line times number None = []
sent_line times number (Some sent) =
    inner_line (codes "number" ∷ signed_decimal number ∷ codes "payload" ∷ carried_text sent.payload ∷ place_text times sent.place ∷ [])

-- a place, and a comma behind it
abbrev pub place_comma : times_spec.TimesValue → Location → List ℕ
place_comma times place = place_text times place ++ codes ","

-- what told a number gone since it was asked for
unfoldable pub since_text : times_spec.TimesValue → Option Teller → List ℕ
since_text times None = codes "not told gone since"
since_text times (Some teller) = codes "told gone by " ++ (kind_text teller.kind ++ 32 ∷ place_text times teller.place)

-- where a number was sent again since it was asked for, and a comma; nothing where it was not
unfoldable pub again_text : times_spec.TimesValue → Option Location → List ℕ
again_text times None = []
again_text times (Some place) = codes "sent again " ++ (place_comma times place ++ codes " ")

-- the line of a number that is missed, behind four spaces: what asks for it last, where it was sent again since, and what told it gone
abbrev pub asked_line : times_spec.TimesValue → FirstMissed → List ℕ
asked_line times first = 32 ∷ 32 ∷ inner_line (codes "number" ∷ decimal first.number ∷ codes "asked for" ∷ place_comma times first.asked ∷ (again_text times first.again ++ since_text times first.gone) ∷ [])

-- how often, in a word
abbrev pub times_words : parts.WordsValue
times_words = record { one = codes "time"; many = codes "times" }

-- how often the writer asked for an answer since the last one
abbrev pub questions_line : times_spec.TimesValue → ℕ → Option Location → List ℕ
questions_line times count None = inner_line (codes "not asked since its last answer" ∷ [])
questions_line times count (Some place) = inner_line (codes "asked" ∷ decimal count ∷ parts.words_for count times_words ∷ codes "since its last answer, last" ∷ place_text times place ∷ [])

-- a GUID, and where its participant is, if that is known
abbrev pub hosted_text : Guid → Option Address → List ℕ
hosted_text guid None = names.guid_text guid
hosted_text guid (Some address) = names.guid_text guid ++ (codes " at " ++ address_text.address_text address)

-- ---- who keeps others waiting

-- where the reader answered; it may not have
unfoldable pub answered_text : times_spec.TimesValue → Option Location → List ℕ
answered_text times None = codes "not answered"
answered_text times (Some place) = codes "answered " ++ place_text times place

-- how long a reader let its writer wait, where the writer asked, and where the reader answered
abbrev pub wait_text : times_spec.TimesValue → Wait → List ℕ
wait_text times wait =
    codes "let the writer wait " ++ (seconds_text (times_spec.seconds_of wait.nanoseconds)
    ++ (codes " s: asked " ++ (place_comma times wait.asked ++ (codes " " ++ answered_text times wait.answered))))

-- a second behind a sentence; nothing where there is none
unfoldable pub at_second : Option Seconds → List ℕ
at_second None = []
at_second (Some second) = codes " at " ++ (seconds_text second ++ codes " s")

-- when the last datagram of a participant came that ended; nothing where the advice is of none
abbrev pub ended_text : times_spec.TimesValue → Option ℕ → List ℕ
ended_text times None = []
ended_text times (Some datagram) = at_second (second_in times datagram)

-- what to do where a participant was not told of endpoints of another: nothing comes back from this address, if there is one
unfoldable pub not_told_advice : Option Address → List ℕ
not_told_advice None = advice_text_spec.sentence_of Advice.NotAnnounced
not_told_advice (Some address) = said.NOTHING_BACK.now ++ (address_text.address_text address ++ said.BY_FIREWALL.now)

-- what to do for a pair, in one sentence
abbrev pub advice_text : times_spec.TimesValue → Advice → List ℕ
advice_text times advice = advice_text_spec.sentence_of advice ++ ended_text times (report_advice.ended_in advice)

-- the participant of a writer or a reader says nothing since this datagram, and does not leave
abbrev pub silence_line : times_spec.TimesValue → Side → ℕ → List ℕ
silence_line times side last =
    codes "the " ++ (qos_names.side_text side ++ (codes "'s participant is silent since datagram " ++ (decimal last
    ++ (second_text times last ++ codes ", and did not leave: it was killed, or cut off"))))

-- the same, where it is silent
abbrev pub silent_side : times_spec.TimesValue → Side → Option ℕ → List (List ℕ)
silent_side times side None = []
silent_side times side (Some last) = silence_line times side last ∷ []

-- who is silent of the two of a pair: the writer's participant, and then the reader's
abbrev pub silence_lines : times_spec.TimesValue → Silences → List (List ℕ)
silence_lines times silences = silent_side times Side.Writer silences.writer ++ silent_side times Side.Reader silences.reader
