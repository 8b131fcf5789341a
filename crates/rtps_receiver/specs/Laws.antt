-- What the receiver's state at a place is, and which acts a message has, by its items alone. DDSI-RTPS 2.5, 8.3.4.1
-- "Rules Followed By The Message Receiver".
use Rattle.std.specs.Prelude.{◌≡◌, ◌⊎◌, ◌↔◌, false, List, ◌∷◌, ◌++◌, All, Contains, Option, Some, None}
use Rattle.rtps_wire.specs.Message as message
use Rattle.rtps_wire.specs.Values as wire_values
use Rattle.rtps_wire.specs.declared.header.Header.{Header}
use Rattle.rtps_receiver.specs.Acts as acts
use Rattle.rtps_ids.specs.declared.identity.Guid.{Guid}
use Rattle.rtps_receiver.specs.Speech as speech
use Rattle.rtps_receiver.specs.Values as values
use Rattle.rtps_receiver.specs.declared.state.State.{State}

-- `says` gives nothing for any of these items
abbrev pub IsSilent : {X : Type 0} → (wire_values.BodyValue → Option X) → List wire_values.ItemValue → Type 0
IsSilent says items = All (λ item. says item.body ≡ None) items

-- `says` gives x for an item, and nothing for any item after it
pub record IsLastSaid {X : Type 0} (says : wire_values.BodyValue → Option X) (items : List wire_values.ItemValue) (x : X) : Type 0 where
  pub before : List wire_values.ItemValue
  pub item : wire_values.ItemValue
  pub behind : List wire_values.ItemValue
  pub split : items ≡ before ++ item ∷ behind
  pub said : says item.body ≡ Some x
  pub silent : IsSilent says behind

-- it is what the last item gives, or what it was at the start if no item gives anything
abbrev pub Stands : {X : Type 0} → (wire_values.BodyValue → Option X) → List wire_values.ItemValue → X → X → Type 0
Stands says items start x = IsLastSaid says items x ⊎ (IsSilent says items × (x ≡ start))

-- each part of the state after these items is what the last item gives, or what it was at the start
pub record StandsBehind (start : State) (items : List wire_values.ItemValue) (state : State) : Type 0 where
  pub source : Stands acts.says_source items start.source state.source
  pub destination : Stands acts.says_destination items start.dest state.dest
  pub time : Stands acts.says_time items start.stamp state.stamp

-- an act of a message with this header: one of its items, which is an act, with the state after all items before it
pub record IsActOf (header : Header) (items : List wire_values.ItemValue) (act : values.ActValue) : Type 0 where
  pub before : List wire_values.ItemValue
  pub item : wire_values.ItemValue
  pub behind : List wire_values.ItemValue
  pub split : items ≡ before ++ item ∷ behind
  pub body : values.ActBodyValue
  pub is_act : acts.act_body item.body ≡ Some body
  pub value : act ≡ acts.act_at (acts.state_behind (acts.state_at_start header) before) item.at item.order body

-- `state_behind` gives this state, after any items
abbrev pub TheStateIsWhatStands : Type 0
TheStateIsWhatStands = (start : State) (items : List wire_values.ItemValue) → StandsBehind start items (acts.state_behind start items)

-- the acts of a datagram are exactly those that its items make
abbrev pub ActsAreOfItems : Type 0
ActsAreOfItems = (reading : message.Reading) (header : Header) (act : values.ActValue) → reading.header ≡ Some header → Contains (acts.acts_of reading) act ↔ IsActOf header reading.items act

-- the acts that a writer speaks are exactly those from it that are no ACKNACK and no NACK_FRAG
abbrev pub SpeakersAreOrigins : Type 0
SpeakersAreOrigins = (act : values.ActValue) (writer : Guid) → speech.IsSpokenBy act writer ↔ ((speech.is_of_reader act.body ≡ false) × (speech.origin_of act ≡ writer))
