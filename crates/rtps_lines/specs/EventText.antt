-- An event in a sentence. own: it tells a person which process or which two hosts to look at, from when to when, and how much it cost.
use Rattle.std.specs.Prelude.{ℕ, ◌++◌, ◌==◌, ◌&&◌, Bool, true, false, if◌then◌else◌, List, [], ◌∷◌, codes, decimal, flat_map, length, option_copied, Option, None, Some}
use Rattle.std.specs.List.{concat}
use Rattle.rtps_ids.specs.declared.identity.Guid.{Guid}
use Rattle.rtps_ids.specs.declared.identity.GuidPrefix.{GuidPrefix}
use Rattle.rtps_parts.specs.Names as names
use Rattle.rtps_parts.specs.Parts as parts
use Rattle.rtps_policies.specs.AddressText as address_text
use Rattle.rtps_policies.specs.Announcing as announcing
use Rattle.rtps_policies.specs.declared.host.Address.{Address}
use Rattle.rtps_evidence.specs.Times as times
use Rattle.rtps_evidence.specs.declared.times.Seconds.{Seconds}
use Rattle.rtps_report.specs.Events as events
use Rattle.rtps_report.specs.Talk as talk
use Rattle.rtps_lines.specs.Lines as lines
use Rattle.rtps_lines.specs.Notes as notes
use Rattle.rtps_lines.specs.NumberRanges as number_ranges
use Rattle.rtps_lines.specs.declared.event_text.ParticipantText.{ParticipantText}

-- ---- participants

-- what a participant is called, of which these are known: its process on its host, or at an address; else where it is
unfoldable pub participant_text : Option ℕ → Option (List ℕ) → Option Address → Guid → List ℕ
participant_text (Some pid) (Some host) address guid = codes "process " ++ (decimal pid ++ (codes " on " ++ flat_map names.octet_text host))
participant_text (Some pid) None (Some address) guid = codes "process " ++ (decimal pid ++ (codes " at " ++ address_text.address_text address))
participant_text (Some pid) None None guid = codes "process " ++ decimal pid
participant_text None host (Some address) guid = address_text.address_text address
participant_text None host None guid = codes "participant " ++ names.guid_text guid

-- the same of the code
abbrev pub told_as : ParticipantText → List ℕ
told_as told = participant_text told.pid (option_copied told.host) told.address told.guid

-- what a participant is called by what is known of it
abbrev pub called : talk.TalkValue → GuidPrefix → List ℕ
called talk prefix =
    let guid = announcing.participant_of prefix in let end = talk.ends guid in participant_text end.process.pid end.process.host end.address guid

-- ---- a participant that is silent

-- since when it is asked; nothing where that is not known
unfoldable pub asked_text : Option Seconds → List ℕ
asked_text None = []
asked_text (Some second) = codes ", was asked from " ++ (lines.seconds_text second ++ codes " s on")

-- when one that is called so was heard last, and when it was asked first behind its last answer
abbrev pub silent_by : times.TimesValue → List ℕ → events.EventValue → List ℕ
silent_by times who event =
    who ++ (codes " was last heard" ++ (lines.ended_text times event.heard ++ (asked_text (number_ranges.place_second times event.asked) ++ codes ", and did not leave")))

-- ---- two participants

-- two signs are the same
abbrev pub is_same_sign : Bool → Bool → Bool
is_same_sign true true = true
is_same_sign true false = false
is_same_sign false true = false
is_same_sign false false = true

-- two times are the same as they are said
abbrev pub is_same_second : Seconds → Seconds → Bool
is_same_second one other = is_same_sign one.negative other.negative && (one.milliseconds == other.milliseconds)

-- between which times numbers were sent first
abbrev pub between_seconds : Seconds → Seconds → List ℕ
between_seconds first last =
    if is_same_second first last then codes ", first sent at " ++ (lines.seconds_text first ++ codes " s")
    else codes ", first sent between " ++ (lines.seconds_text first ++ (codes " s and " ++ (lines.seconds_text last ++ codes " s")))

-- the same; nothing where one of the two is not known
unfoldable pub sent_text : Option Seconds → Option Seconds → List ℕ
sent_text None last = []
sent_text (Some first) None = []
sent_text (Some first) (Some last) = between_seconds first last

-- from whom to whom numbers are lost, and between which times they were sent first
abbrev pub between_by : times.TimesValue → List ℕ → List ℕ → events.EventValue → List ℕ
between_by times who whom event =
    codes "from " ++ (who ++ (codes " to " ++ (whom ++ sent_text (number_ranges.place_second times event.first) (number_ranges.place_second times event.last))))

-- ---- both

-- what an event is about
abbrev pub about_text : times.TimesValue → talk.TalkValue → events.EventValue → Option GuidPrefix → List ℕ
about_text times talk event None = silent_by times (called talk event.key.first) event
about_text times talk event (Some reader) = between_by times (called talk event.key.first) (called talk reader) event

-- how many numbers are lost, behind a comma; nothing where none is
abbrev pub numbers_text : ℕ → List ℕ
numbers_text numbers = if numbers == 0 then [] else codes ", " ++ parts.amount numbers notes.number_words

-- how many pairs an event has, and how many numbers they lost
abbrev pub amounts_text : ℕ → ℕ → List ℕ
amounts_text pairs numbers = codes ": " ++ (parts.amount pairs notes.pair_words ++ numbers_text numbers)

-- an event in a sentence
abbrev pub event_text : times.TimesValue → talk.TalkValue → events.EventValue → List ℕ
event_text times talk event = about_text times talk event event.key.second ++ amounts_text (length event.places) event.numbers
