-- Which numbers a reader received for certain, and what keeps the first other one from being so. DDSI-RTPS 2.5, 8.4.2.3
-- "Required RTPS Reader Behavior": a reader claims only what it was told. own: a number that is told gone counts as told, so a
-- claim alone does not say that a payload came; it does where nothing else was told before it.
use Rattle.std.specs.Prelude.{ℕ, Bool, true, false, ◌-◌, ◌+◌, ◌≡◌, ◌&&◌, nat_lt, not, List, Contains, Option, Some, None}
use Rattle.std.specs.List.{find, list_any, range_with_len}
use Rattle.std.specs.Option.{option_map}
use Rattle.rtps_ids.specs.declared.identity.Guid.{Guid}
use Rattle.rtps_discovery.specs.declared.matching.Pair.{Pair}
use Rattle.rtps_wire.specs.Values as wire_values
use Rattle.rtps_receiver.specs.Values as receiver_values
use Rattle.rtps_audit.specs.Delivery as delivery
use Rattle.rtps_audit.specs.Placed as placed
use Rattle.rtps_audit.specs.Speech as speech
use Rattle.rtps_coverage.specs.Counts as counts
use Rattle.rtps_evidence.specs.Locations as locations
use Rattle.rtps_evidence.specs.declared.teller.Teller.{Teller}
use Rattle.rtps_evidence.specs.declared.not_received.NotReceived.{NotReceived}
use Rattle.rtps_evidence.specs.declared.received.Received.{Received}

-- an answer of the reader to the writer claims n
abbrev pub claims : Guid → Guid → ℕ → placed.PlacedValue → Bool
claims writer reader n placed = nat_lt n (locations.base_said writer reader placed)

-- the first answer that claims n. Acts stand by datagram, so no earlier datagram has one
abbrev pub first_claiming : Guid → Guid → ℕ → List placed.PlacedValue → Option placed.PlacedValue
first_claiming writer reader n acts = find (claims writer reader n) acts

-- the word is that the number will not come
abbrev pub is_gone : Option delivery.Word → Bool
is_gone (Some delivery.Word.Gone) = true
is_gone (Some (delivery.Word.Told payload)) = false
is_gone None = false

-- the reader hears from the writer that n will not come
abbrev pub withdraws : Guid → Guid → ℕ → placed.PlacedValue → Bool
withdraws writer reader n placed = is_gone (speech.word_for writer reader placed.act n)

-- it does before a datagram
abbrev pub withdraws_before : Guid → Guid → ℕ → ℕ → placed.PlacedValue → Bool
withdraws_before writer reader n datagram placed = nat_lt placed.datagram datagram && withdraws writer reader n placed

-- it hears a payload for n before a datagram
abbrev pub sends_before : Guid → Guid → ℕ → ℕ → placed.PlacedValue → Bool
sends_before writer reader n datagram placed = nat_lt placed.datagram datagram && locations.sends writer reader n placed

-- before a datagram, it hears a payload for n, and never that n will not come
abbrev pub is_sent_alone : Guid → Guid → ℕ → List placed.PlacedValue → ℕ → Bool
is_sent_alone writer reader n acts datagram = list_any (sends_before writer reader n datagram) acts && not (list_any (withdraws_before writer reader n datagram) acts)

-- it is so before the datagram of a claim, if there is a claim
abbrev pub is_certain_by : Guid → Guid → ℕ → List placed.PlacedValue → Option placed.PlacedValue → Bool
is_certain_by writer reader n acts None = false
is_certain_by writer reader n acts (Some claim) = is_sent_alone writer reader n acts claim.datagram

-- n is received: some answer claims it, and before the first datagram with one, the reader hears a payload for n, and never
-- that n will not come
abbrev pub is_received : Guid → Guid → List placed.PlacedValue → ℕ → Bool
is_received writer reader acts n = is_certain_by writer reader n acts (first_claiming writer reader n acts)

-- the least of the numbers from lo on and below hi that has it
abbrev pub least_in : (ℕ → Bool) → ℕ → ℕ → Option ℕ
least_in has lo hi = find has (range_with_len lo (hi - lo))

-- the first act before a datagram by which the reader hears that n will not come
abbrev pub gone_before : Guid → Guid → ℕ → ℕ → List placed.PlacedValue → Option Teller
gone_before writer reader n datagram acts = option_map locations.teller_at (find (withdraws_before writer reader n datagram) acts)

-- What keeps n from being received, by the first answer that claims it: that nothing does; that it was told gone before; or,
-- where it was not, that nothing told it before.
abbrev pub kept_by : Guid → Guid → ℕ → List placed.PlacedValue → Option placed.PlacedValue → NotReceived
kept_by writer reader n acts None = record { number = n; gone = None; acknowledged = None }
kept_by writer reader n acts (Some claim) = record { number = n; gone = gone_before writer reader n claim.datagram acts; acknowledged = Some (locations.location_of claim) }

-- the least number from `from` on, up to the last one, that is not received, and what keeps it
abbrev pub not_received_of : ℕ → ℕ → Guid → Guid → List placed.PlacedValue → Option NotReceived
not_received_of from last writer reader acts =
    option_map (λ n. kept_by writer reader n acts (first_claiming writer reader n acts)) (least_in (λ n. not (is_received writer reader acts n)) from (last + 1))

-- of the numbers from `from` on, up to the last one: how many are received, and the least one that is not
pub record AreReceived (from last : ℕ) (writer reader : Guid) (acts : List placed.PlacedValue) (received : Received) : Type 0 where
  pub count : received.count ≡ counts.count_in (is_received writer reader acts) from (last + 1)
  pub not_received : received.not_received ≡ not_received_of from last writer reader acts

-- the reader has a payload for the number
abbrev pub HoldsPayload : delivery.DeliveryState → ℕ → Type 0
HoldsPayload state n = (payload : wire_values.PayloadValue) × Contains state.held (n, delivery.Word.Told payload)

-- every run ends with a payload for n
abbrev pub EndsWithPayload : ℕ → Pair → List (List receiver_values.ActValue) → ℕ → Type 0
EndsWithPayload from pair recording n = (end : delivery.DeliveryState) → delivery.Ends from (speech.speech_by pair.writer pair.reader recording) end → HoldsPayload end n

-- some run ends without one
abbrev pub EndsWithoutPayload : ℕ → Pair → List (List receiver_values.ActValue) → ℕ → Type 0
EndsWithoutPayload from pair recording n = (end : delivery.DeliveryState) × delivery.Ends from (speech.speech_by pair.writer pair.reader recording) end × ¬ HoldsPayload end n

-- received is exact: where a run exists, every run ends with a payload for each number that is received, and for every other
-- number that is asked for some run ends without one
pub record IsExactlyReceived (from : ℕ) (pair : Pair) (recording : List (List receiver_values.ActValue)) (n : ℕ) : Type 0 where
  pub certain : is_received pair.writer pair.reader (placed.placed_in recording) n ≡ true → EndsWithPayload from pair recording n
  pub uncertain : is_received pair.writer pair.reader (placed.placed_in recording) n ≡ false → EndsWithoutPayload from pair recording n

-- it is so of each number that is asked for
abbrev pub ReceivedIsExact : Type 0
ReceivedIsExact =
    (from : ℕ) (pair : Pair) (recording : List (List receiver_values.ActValue)) (n : ℕ) → delivery.IsAsked from n → delivery.HasRun from (speech.speech_by pair.writer pair.reader recording)
    → IsExactlyReceived from pair recording n
