-- Who speaks in a recording before it is announced. DDSI-RTPS 2.5, 8.5 "Discovery Module", 9.3.1.2 "Mapping of the EntityId_t" (the two highest bits of
-- the last octet are those of a built-in entity) and 9.3.1.3 "Predefined EntityIds". own: a participant announces itself before its endpoints say
-- anything, so where one speaks earlier, the recording began in the middle. Of built-in entities those count that announce endpoints: a stack may send
-- messages of participants before it announces itself.
use Rattle.std.specs.Prelude.{ℕ, ◌&&◌, ◌||◌, Bool, true, List, [], ◌∷◌, Option, Some, None, filter, flat_map, fold, get_or, length, nat_lt}
use Rattle.std.specs.BTreeSet.{insert_key}
use Rattle.std.specs.List.{enumerate_from, list_any}
use Rattle.rtps_ids.specs.declared.identity.EntityId.{EntityId}
use Rattle.rtps_ids.specs.declared.identity.GuidPrefix.{GuidPrefix}
use Rattle.rtps_receiver.specs.Speech as speech
use Rattle.rtps_receiver.specs.Values as values
use Rattle.rtps_audit.specs.Placed as placed
use Rattle.rtps_evidence.specs.declared.location.Location.{Location}
use Rattle.rtps_fragments.specs.Announcements as announcements
use Rattle.rtps_fragments.specs.RecordedSamples as recorded_samples
use Rattle.rtps_fragments.specs.declared.fragments.Fragments.{Fragments}
use Rattle.rtps_policies.specs.Announcing as announcing_spec
use Rattle.rtps_report.specs.ActsRead as acts_read
use Rattle.rtps_report.specs.Participants as participants
use Rattle.rtps_report.specs.Stays as stays

-- the built-in entities that announce endpoints
abbrev pub announcers : List EntityId
announcers = record { 0 = 0x00 ∷ 0x00 ∷ 0x03 ∷ 0xc2 ∷ [] } ∷ record { 0 = 0x00 ∷ 0x00 ∷ 0x03 ∷ 0xc7 ∷ [] }
    ∷ record { 0 = 0x00 ∷ 0x00 ∷ 0x04 ∷ 0xc2 ∷ [] } ∷ record { 0 = 0x00 ∷ 0x00 ∷ 0x04 ∷ 0xc7 ∷ [] } ∷ []

-- an entity speaks only behind the announcement of its participant: one of a user, or one that announces endpoints
abbrev pub speaks_behind : EntityId → Bool
speaks_behind entity = nat_lt (get_or entity.0 3 0) 0xc0 || list_any (speech.is_entity entity) announcers

-- a datagram stands before this place, if there is one
abbrev pub is_before : ℕ → Option Location → Bool
is_before datagram None = true
is_before datagram (Some place) = nat_lt datagram place.datagram

-- an act of a datagram stands before its participant is announced, or that is never announced
abbrev pub is_early : List placed.PlacedValue → ℕ → values.ActValue → Bool
is_early announcing datagram act = speaks_behind (speech.entity_from act.body) && is_before datagram (participants.place_of (announcing_spec.participant_of act.source) announcing)

-- the acts of datagrams that are so
abbrev pub early_in : List placed.PlacedValue → List (List values.ActValue) → List values.ActValue
early_in announcing datagrams = flat_map (λ row. filter (is_early announcing row.0) row.1) (enumerate_from 1 datagrams)

-- participants, each once, with the source of an act more
abbrev pub with_source : List GuidPrefix → values.ActValue → List GuidPrefix
with_source prefixes act = insert_key stays.prefix_cmp prefixes act.source

-- the participants of acts, each once
abbrev pub sources_of : List values.ActValue → List GuidPrefix
sources_of acts = fold with_source [] acts

-- how many participants of a recording speak before they are announced, or are never announced
abbrev pub early_of : List (List ℕ) → ℕ
early_of recording = length (sources_of (early_in (announcements.announcements_in (recorded_samples.intake_as Fragments.Read recording).announcing) (acts_read.datagrams_read recording)))
