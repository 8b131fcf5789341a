-- The acts of a recording, each with the datagram that it stands in; and of them the answers of each pair, and where endpoints
-- are announced (DDSI-RTPS 2.5, 8.5.4 "The Simple Endpoint Discovery Protocol"). own: what one GUID said stands together, so that
-- a pair costs no more than what its two said. A reader that is not announced yet may not be there, so what it did not get before
-- that says nothing. The lists of values by key, in which all of it is kept, stand first.
use Rattle.std.specs.Prelude.{List, [], Option, Some, None, ℕ, pos, Bool, true, false, ◌+◌, ◌≡◌, ◌&&◌, ◌∷◌, ◌++◌, filter, map, cond}
use Rattle.std.specs.BTreeMap.{BTreeMap, get}
use Rattle.std.specs.Global.{Vec}
use Rattle.std.specs.List.{filter_map}
use Rattle.std.specs.Ordering.{is_eq}
use Rattle.std.specs.declared.cmp.Ordering.{Ordering}
use Rattle.rtps_ids.specs.declared.identity.Guid.{Guid}
use Rattle.rtps_receiver.specs.Speech as receiver_speech
use Rattle.rtps_receiver.specs.Values as values
use Rattle.rtps_discovery.specs.GuidOrder as guid_order
use Rattle.rtps_discovery.specs.Endpoint as endpoint
use Rattle.rtps_discovery.specs.Notice as notice
use Rattle.rtps_discovery.specs.declared.matching.Pair.{Pair}
use Rattle.rtps_audit.specs.Speech as speech
use Rattle.rtps_audit.specs.declared.answer.Answer.{Answer}
use Rattle.rtps_audit.specs.declared.groups.Groups.{Groups}
use Rattle.rtps_audit.specs.declared.announced_places.AnnouncedPlace.{AnnouncedPlace}
use Rattle.rtps_audit.specs.declared.placed.Placed.{Placed}

-- the values of a list, none where there is no list
abbrev pub items_or_none : {V : Type 0} → Option (Vec V) → List V
items_or_none (Some values) = values.items
items_or_none None = []

-- the values of a key; none where it has no list
abbrev pub values_at : {K V : Type 0} → (K → K → Ordering) → BTreeMap K (Vec V) → K → List V
values_at cmp map key = items_or_none (get cmp map key)

-- an act, and the datagram that it stands in, counted from 1
pub record PlacedValue : Type 0 where
  pub datagram : ℕ
  pub act : values.ActValue

-- an act in its place, with lists of octets where the type holds parts of the caller's datagrams
abbrev pub placed_value : Placed → PlacedValue
placed_value placed = record { datagram = placed.datagram; act = values.spoken_value placed.act }

-- acts of one datagram
abbrev pub placed_at : ℕ → List values.ActValue → List PlacedValue
placed_at datagram acts = map (λ act. record { datagram = datagram; act = act }) acts

-- the acts of datagrams that stand behind so many others, by datagram and then by place
abbrev pub placed_behind : ℕ → List (List values.ActValue) → List PlacedValue
placed_behind before [] = []
placed_behind before (acts ∷ datagrams) = placed_at (before + 1) acts ++ placed_behind (before + 1) datagrams

-- the acts of a recording, which is those of each datagram in the order of sending
abbrev pub placed_in : List (List values.ActValue) → List PlacedValue
placed_in recording = placed_behind 0 recording

-- whether two GUIDs are the same
abbrev pub is_guid : Guid → Guid → Bool
is_guid one other = receiver_speech.is_prefix one.prefix other.prefix && receiver_speech.is_entity one.entity other.entity

-- whether an act is from this GUID
abbrev pub is_from : Guid → PlacedValue → Bool
is_from origin placed = is_guid origin (receiver_speech.origin_of placed.act)

-- the answer of this base, where there is one, that stands at this place of a datagram
abbrev pub answer_at : ℕ → ℕ → Option ℕ → Option Answer
answer_at datagram at (Some base) = Some (record { datagram = datagram; at = at; base = pos base })
answer_at datagram at None = None

-- the answer that an act is of a pair's reader to its writer
abbrev pub answer_of : Pair → PlacedValue → Option Answer
answer_of pair placed = answer_at placed.datagram placed.act.at (speech.base_for pair.writer pair.reader placed.act)

-- the answers of a pair's reader to its writer
abbrev pub answers_among : Pair → List PlacedValue → List Answer
answers_among pair placed = filter_map (answer_of pair) placed

-- the new lists have the acts of the old ones, and then these
abbrev pub AddsActs : BTreeMap Guid (Vec Placed) → BTreeMap Guid (Vec Placed) → List PlacedValue → Type 0
AddsActs old new placed = (origin : Guid) → map placed_value (values_at guid_order.guid_cmp new origin) ≡ map placed_value (values_at guid_order.guid_cmp old origin) ++ filter (is_from origin) placed

-- the answers of a reader to this writer that are kept, where there are some
abbrev pub answers_to : Option (Groups Guid Answer) → Guid → List Answer
answers_to (Some answers) writer = values_at guid_order.guid_cmp answers.map writer
answers_to None writer = []

-- the answers that are kept of a pair
abbrev pub answers_kept : BTreeMap Guid (Groups Guid Answer) → Pair → List Answer
answers_kept readers pair = answers_to (get guid_order.guid_cmp readers pair.reader) pair.writer

-- and so the answers
abbrev pub AddsAnswers : BTreeMap Guid (Groups Guid Answer) → BTreeMap Guid (Groups Guid Answer) → List PlacedValue → Type 0
AddsAnswers old new placed = (pair : Pair) → answers_kept new pair ≡ answers_kept old pair ++ answers_among pair placed

-- the lists of a reader have what the old ones have, and then its answers among these acts, which answer for no other reader
pub record AddsAnswersOf (reader : Guid) (old new : BTreeMap Guid (Vec Answer)) (placed : List PlacedValue) : Type 0 where
  pub own : (pair : Pair) → is_eq (guid_order.guid_cmp pair.reader reader) ≡ true → values_at guid_order.guid_cmp new pair.writer ≡ values_at guid_order.guid_cmp old pair.writer ++ answers_among pair placed
  pub others : (pair : Pair) → is_eq (guid_order.guid_cmp pair.reader reader) ≡ false → answers_among pair placed ≡ []

-- the place of an announcement, where it is of the endpoint of this GUID
abbrev pub announced_at : ℕ → ℕ → Guid → Option endpoint.EndpointValue → Option AnnouncedPlace
announced_at datagram at guid None = None
announced_at datagram at guid (Some endpoint) = cond (is_guid guid endpoint.guid) (Some (record { datagram = datagram; at = at })) None

-- where an act announces the endpoint of this GUID, as a writer or a reader of whatever topic
abbrev pub announced_of : Guid → PlacedValue → Option AnnouncedPlace
announced_of guid placed = announced_at placed.datagram placed.act.at guid (notice.endpoint_in (notice.announcement_of placed.act))

-- where these acts do
abbrev pub announced_among : Guid → List PlacedValue → List AnnouncedPlace
announced_among guid placed = filter_map (announced_of guid) placed

-- the new lists have the places of the old ones, and then those of these acts
abbrev pub AddsAnnounced : BTreeMap Guid (Vec AnnouncedPlace) → BTreeMap Guid (Vec AnnouncedPlace) → List PlacedValue → Type 0
AddsAnnounced old new placed = (guid : Guid) → values_at guid_order.guid_cmp new guid ≡ values_at guid_order.guid_cmp old guid ++ announced_among guid placed
