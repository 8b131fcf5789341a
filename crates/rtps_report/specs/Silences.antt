-- What is known of the participants of a pair. own: a reader whose participant was killed or cut off acknowledges nothing more, so what it lacks at
-- the end is not told as a tail alone; nor is what is a mixture of two lives. A reader that was never told of the writer takes nothing of it.
use Rattle.std.specs.Prelude.{ℕ, ◌&&◌, Bool, if◌then◌else◌, is_none, is_some, List, not, Option, Some, None}
use Rattle.std.specs.List.{find, list_any}
use Rattle.rtps_ids.specs.declared.identity.Guid.{Guid}
use Rattle.rtps_discovery.specs.declared.matching.Pair.{Pair}
use Rattle.rtps_audit.specs.Placed as placed
use Rattle.rtps_ids.specs.declared.identity.GuidPrefix.{GuidPrefix}
use Rattle.rtps_receiver.specs.Speech as speech
use Rattle.rtps_policies.specs.Announcing as announcing
use Rattle.rtps_policies.specs.declared.host.Address.{Address}
use Rattle.rtps_policies.specs.declared.one_way.OneWay.{OneWay}
use Rattle.rtps_report.specs.LateMatches as late_matches
use Rattle.rtps_report.specs.NotTold as not_told
use Rattle.rtps_report.specs.Talk as talk
use Rattle.rtps_report.specs.declared.participant.Participant.{Participant}
use Rattle.rtps_report.specs.declared.silences.Silences.{Silences}
use Rattle.rtps_report.specs.declared.presence.Stay.{Stay}

-- the last datagram of a stay, where there is one
abbrev pub last_in : Option Stay → Option ℕ
last_in None = None
last_in (Some stay) = Some stay.last

-- since which datagram a participant is silent, where there is one that is
abbrev pub silent_since : Option Participant → Option ℕ
silent_since None = None
silent_since (Some participant) = if participant.silent then last_in participant.stay else None

-- it has this GUID
abbrev pub has_guid : Guid → Participant → Bool
has_guid guid participant = placed.is_guid participant.guid guid

-- since which datagram the first of these participants that has this GUID is silent
abbrev pub silence_among : List Participant → Guid → Option ℕ
silence_among participants guid = silent_since (find (has_guid guid) participants)

-- ---- what discovery did not tell

-- the one names the other, and never the other way round
abbrev pub is_one_way : List OneWay → GuidPrefix → GuidPrefix → Bool
is_one_way found source dest = list_any (λ one. speech.is_prefix one.naming.source source && speech.is_prefix one.naming.dest dest) found

-- from where nothing comes back of two participants, of which the one names the other; None where something does
abbrev pub address_behind : talk.TalkValue → Guid → Guid → Option Address
address_behind talk from to = if is_one_way talk.one_way from.prefix to.prefix then (talk.ends to).address else None

-- ---- of a pair

-- since when the participants of the writer and the reader of a pair are silent, whether that of the reader was not told of endpoints of the other,
-- whether one has two lives, and whether the two matched late
abbrev pub silences_of : talk.TalkValue → Pair → Silences
silences_of talk pair =
    record {
      writer = silence_among talk.participants (announcing.participant_of pair.writer.prefix);
      reader = silence_among talk.participants (announcing.participant_of pair.reader.prefix);
      is_not_told = not_told.is_not_told_of talk.not_told (announcing.participant_of pair.writer.prefix) (announcing.participant_of pair.reader.prefix);
      is_twice = late_matches.is_mixed talk.lives pair;
      matched_late = is_some (talk.late pair);
    }

-- neither is silent, and neither has two lives
abbrev pub are_heard : Silences → Bool
are_heard silences = is_none silences.writer && (is_none silences.reader && not silences.is_twice)
