-- Acts: the DATA, HEARTBEAT, ACKNACK and GAP of a datagram with the receiver's state at their places. DDSI-RTPS 2.5,
-- 8.3.4 "The RTPS Message Receiver" and 8.3.4.1 "Rules Followed By The Message Receiver".
use Rattle.std.specs.Prelude.{ℕ, ◌≡◌, if◌then◌else◌, Bool, true, false, filter, List, [], ◌∷◌, ◌++◌, flat_map, map, Option, Some, None, unwrap_or, option_to_list, Result, Ok, Err}
use Rattle.rtps_ids.specs.declared.identity.GuidPrefix.{GuidPrefix}
use Rattle.rtps_ids.specs.declared.identity.Stamp.{Stamp}
use Rattle.rtps_ids.specs.declared.order.Order.{Order}
use Rattle.rtps_wire.specs.Message as message
use Rattle.rtps_wire.specs.Reading as reading
use Rattle.rtps_wire.specs.Values as wire_values
use Rattle.rtps_wire.specs.declared.fault.Refusal.{Refusal}
use Rattle.rtps_wire.specs.declared.header.Header.{Header}
use Rattle.rtps_receiver.specs.Destination as destination
use Rattle.rtps_receiver.specs.declared.state.State.{State}
use Rattle.rtps_receiver.specs.Values as values

-- the later of two values, or the earlier one if there is no later
abbrev pub later : {X : Type 0} → Option X → Option X → Option X
later (Some x) earlier = Some x
later None earlier = earlier

-- what `says` gives for the last of these items for which it gives something
abbrev pub last_said : {X : Type 0} → (wire_values.BodyValue → Option X) → List wire_values.ItemValue → Option X
last_said says [] = None
last_said says (item ∷ items) = later (last_said says items) (says item.body)

-- the source that an INFO_SRC gives: version, vendor and prefix (own: any version is taken)
abbrev pub says_source : wire_values.BodyValue → Option Header
says_source (wire_values.BodyValue.InfoSrc version vendor prefix) = Some (record { version = version; vendor = vendor; prefix = prefix })
says_source _ = None

-- the destination that an INFO_DST gives; a prefix of zeros is everyone
abbrev pub says_destination : wire_values.BodyValue → Option (Option GuidPrefix)
says_destination (wire_values.BodyValue.InfoDst prefix) = Some (if destination.is_unknown prefix then None else Some prefix)
says_destination _ = None

-- the time that an INFO_TS gives, or that there is none (own: after an INFO_SRC there is no time, since a time is that
-- of its source; the destination stays)
abbrev pub says_time : wire_values.BodyValue → Option (Option Stamp)
says_time (wire_values.BodyValue.InfoTs time) = Some time
says_time (wire_values.BodyValue.InfoSrc version vendor prefix) = Some None
says_time _ = None

-- at the start of a message the source is the header's, the destination everyone, and there is no time
abbrev pub state_at_start : Header → State
state_at_start header = record { source = header; dest = None; stamp = None }

-- the receiver's state after these items: what the last of them gives, or what it was at the start if none gives
-- anything
abbrev pub state_behind : State → List wire_values.ItemValue → State
state_behind start items =
    record {
      source = unwrap_or (last_said says_source items) start.source;
      dest = unwrap_or (last_said says_destination items) start.dest;
      stamp = unwrap_or (last_said says_time items) start.stamp;
    }

-- the items that are acts
abbrev pub act_body : wire_values.BodyValue → Option values.ActBodyValue
act_body (wire_values.BodyValue.Data value) = Some (values.ActBodyValue.Data value)
act_body (wire_values.BodyValue.Heartbeat value) = Some (values.ActBodyValue.Heartbeat value)
act_body (wire_values.BodyValue.AckNack value) = Some (values.ActBodyValue.AckNack value)
act_body (wire_values.BodyValue.Gap value) = Some (values.ActBodyValue.Gap value)
act_body _ = None

-- the act with this body in this state
abbrev pub act_at : State → ℕ → Order → values.ActBodyValue → values.ActValue
act_at state at order body =
    record {
      at = at;
      source = state.source.prefix;
      version = state.source.version;
      vendor = state.source.vendor;
      dest = state.dest;
      stamp = state.stamp;
      order = order;
      body = body;
    }

-- an act that is this item in this state
abbrev pub IsActIn : State → wire_values.ItemValue → values.ActValue → Type 0
IsActIn state item act = (body : values.ActBodyValue) × (act_body item.body ≡ Some body) × (act ≡ act_at state item.at item.order body)

-- the act that an item is, if it is one
abbrev pub acts_of_item : State → wire_values.ItemValue → Option values.ActBodyValue → List values.ActValue
acts_of_item state item (Some body) = act_at state item.at item.order body ∷ []
acts_of_item state item None = []

-- what `gives` makes of each item in the state after all items before it, one after another
abbrev pub gathered : {X : Type 0} → (State → wire_values.ItemValue → List X) → State → List wire_values.ItemValue → List wire_values.ItemValue → List X
gathered gives start before [] = []
gathered gives start before (item ∷ items) = gives (state_behind start before) item ++ gathered gives start (before ++ item ∷ []) items

-- the acts among items, each in the state after all items before it
abbrev pub acts_behind : State → List wire_values.ItemValue → List wire_values.ItemValue → List values.ActValue
acts_behind start before items = gathered (λ state item. acts_of_item state item (act_body item.body)) start before items

-- the acts of a reading; one without a header has none
abbrev pub acts_with : Option Header → List wire_values.ItemValue → List values.ActValue
acts_with None items = []
acts_with (Some header) items = acts_behind (state_at_start header) [] items

-- the acts of a datagram, in order
unfoldable pub acts_of : message.Reading → List values.ActValue
acts_of reading = acts_with reading.header reading.items

-- the acts of a recording, which is the octets of its datagrams in the order of sending
abbrev pub acts_in : List (List ℕ) → List values.ActValue
acts_in recording = flat_map (λ datagram. acts_of (reading.reading_of datagram)) recording

-- the act is a DATA
abbrev pub is_data : values.ActBodyValue → Bool
is_data (values.ActBodyValue.Data value) = true
is_data _ = false

-- the DATA among acts
abbrev pub data_among : List values.ActValue → List values.ActValue
data_among acts = filter (λ act. is_data act.body) acts

-- the unread part of a message, and the receiver's state before it
pub record Awaited : Type 0 where
  pub state : State
  pub unread : reading.Unread

-- an act, or the refusal that ends the message
abbrev pub ActOutcome : Type 0
ActOutcome = Result values.ActValue Refusal

-- acts, and then the refusal if there is one
abbrev pub acts_then : List values.ActValue → Option Refusal → List ActOutcome
acts_then acts ending = map Ok acts ++ map Err (option_to_list ending)

-- the acts among what is read of a message
abbrev pub acts_among : List ActOutcome → List values.ActValue
acts_among [] = []
acts_among (Ok act ∷ rest) = act ∷ acts_among rest
acts_among (Err refusal ∷ rest) = acts_among rest

-- the acts of the unread items from the state on, and the refusal
unfoldable pub acts_left : Awaited → List ActOutcome
acts_left awaited =
    acts_then (acts_behind awaited.state [] (reading.items_among (reading.outcomes_left awaited.unread))) (reading.refusal_among (reading.outcomes_left awaited.unread))
