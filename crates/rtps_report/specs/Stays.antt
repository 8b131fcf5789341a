-- When a recording has something of a participant. DDSI-RTPS 2.5, 8.3.6 "The RTPS Header": the prefix in the header of a message says who sent
-- it. own: by the header alone. A datagram shows that its sender is there, whatever it says; a participant that an INFO_SRC names has not
-- sent it.
use Rattle.std.specs.Prelude.{ℕ, ◌≡◌, Bool, true, false, if◌then◌else◌, is_some, List, [], ◌∷◌, filter, map, max, Option, Some, None}
use Rattle.std.specs.BTreeMap.{get}
use Rattle.std.specs.Cmp.Lexicographic.{slice_cmp}
use Rattle.std.specs.List.{enumerate_from, list_all}
use Rattle.std.specs.Option.{option_map}
use Rattle.std.specs.Ordering.{nat_cmp}
use Rattle.std.specs.declared.cmp.Ordering.{Ordering}
use Rattle.rtps_ids.specs.declared.identity.GuidPrefix.{GuidPrefix}
use Rattle.rtps_wire.specs.Reading as reading
use Rattle.rtps_wire.specs.declared.header.Header.{Header}
use Rattle.rtps_receiver.specs.Speech as speech
use Rattle.rtps_evidence.specs.Times as times_spec
use Rattle.rtps_report.specs.declared.presence.Presence.{Presence}
use Rattle.rtps_report.specs.declared.presence.Presences.{Presences}
use Rattle.rtps_report.specs.declared.presence.Stay.{Stay}

-- octet by octet
abbrev pub prefix_cmp : GuidPrefix → GuidPrefix → Ordering
prefix_cmp one other = slice_cmp nat_cmp one.0 other.0

-- who sent a datagram with this header, where it can be read
abbrev pub sender_by : Option Header → Option GuidPrefix
sender_by header = option_map (λ one. one.prefix) header

-- who sent a datagram
abbrev pub sender_of : List ℕ → Option GuidPrefix
sender_of datagram = sender_by (reading.reading_of datagram).header

-- a sender is this participant
abbrev pub is_sender : GuidPrefix → Option GuidPrefix → Bool
is_sender prefix None = false
is_sender prefix (Some sender) = speech.is_prefix sender prefix

-- the numbers of the datagrams that a participant sent, in order, counted from 1
abbrev pub numbers_of : GuidPrefix → List (List ℕ) → List ℕ
numbers_of prefix recording = map (λ row. row.0) (filter (λ row. is_sender prefix (sender_of row.1)) (enumerate_from 1 recording))

-- the last of a number and those behind it
abbrev pub last_of : ℕ → List ℕ → ℕ
last_of number [] = number
last_of number (next ∷ numbers) = last_of next numbers

-- the first and the last of numbers, where there are some
abbrev pub ends_of : List ℕ → Option Stay
ends_of [] = None
ends_of (number ∷ numbers) = Some (record { first = number; last = last_of number numbers })

-- from when to when there is something of a participant
abbrev pub stay_of : List (List ℕ) → GuidPrefix → Option Stay
stay_of recording prefix = ends_of (numbers_of prefix recording)

-- ---- when its last datagram came

-- the greatest of these times; None where one of them is not known
abbrev pub greatest_known : List (Option ℕ) → Option ℕ
greatest_known times = if list_all is_some times then times_spec.end_of times else None

-- the greatest time of the datagrams that a participant sent; None where there is none, or one of them has no time
abbrev pub latest_of : List (List ℕ) → List (Option ℕ) → GuidPrefix → Option ℕ
latest_of recording times prefix = greatest_known (map (times_spec.time_of times) (numbers_of prefix recording))

-- ---- the same of the code

-- the later of two times; None where there are not both
abbrev pub both_later : Option ℕ → Option ℕ → Option ℕ
both_later None other = None
both_later (Some one) None = None
both_later (Some one) (Some other) = Some (max one other)

-- when there is something of a participant, by the stay and the time
abbrev pub present : Option ℕ → Stay → Presence
present latest stay = record { stay = stay; latest = latest }

-- when there is something of a participant
abbrev pub presence_of : List (List ℕ) → List (Option ℕ) → GuidPrefix → Option Presence
presence_of recording times prefix = option_map (present (latest_of recording times prefix)) (stay_of recording prefix)

-- the same with one datagram more, which came at this time, if the participant sent it
abbrev pub presence_with : ℕ → Option ℕ → Bool → Option Presence → Option Presence
presence_with datagram time false presence = presence
presence_with datagram time true None = Some (present time (record { first = datagram; last = datagram }))
presence_with datagram time true (Some presence) =
    Some (present (both_later presence.latest time) (record { first = presence.stay.first; last = datagram }))

-- what is kept is that of a recording, of which the datagrams came then
abbrev pub ArePresencesOf : List (List ℕ) → List (Option ℕ) → Presences → Type 0
ArePresencesOf recording times presences = (prefix : GuidPrefix) → get prefix_cmp presences.of_senders prefix ≡ presence_of recording times prefix
