-- Delivery of one writer's numbers to one reader. DDSI-RTPS 2.5, 8.4 "Behavior Module", and 8.3.8.1 "AckNack",
-- 8.3.8.2 "Data", 8.3.8.3 "DataFrag", 8.3.8.4 "Gap" and 8.3.8.6 "Heartbeat", which say what each submessage tells. A
-- definition with a number `from` speaks of the writer's numbers from that one on, and of no smaller one; with 1 it speaks of
-- all.
use Rattle.std.specs.Prelude.{ℕ, suc, ◌<◌, ◌≤◌, ◌≡◌, ◌-◌, List, [], ◌∷◌, ◌++◌, length, max, Option, Some, slice_get, Contains, Bool, ◌&&◌, nat_le}
use Rattle.rtps_wire.specs.Values as values

-- what a reader may be told of a number: its payload, or that it will not come
pub data Word : Type 0 where
  Told : (payload : values.PayloadValue) → Word
  Gone : Word

-- what one datagram says of the writer and the reader. For each act: the words that it has for numbers, none where the
-- reader does not hear it from the writer. For each ACKNACK by which the reader answers the writer: its base. For each DATA,
-- DATA_FRAG and HEARTBEAT of the writer, whoever hears it: the number, or the last number, that it announces
pub record Datagram : Type 0 where
  pub acts : List (ℕ → Option Word)
  pub bases : List ℕ
  pub announced : List ℕ

-- the datagrams of a recording in the order of sending. Places in it count from 0
abbrev pub Speech : Type 0
Speech = List Datagram

-- the number n is asked for: it is one of those from `from` on. Numbers begin at 1
abbrev pub IsAsked : ℕ → ℕ → Type 0
IsAsked from n = (1 ≤ n) × (from ≤ n)

-- the same as a test
abbrev pub is_asked : ℕ → ℕ → Bool
is_asked from n = nat_le 1 n && nat_le from n

-- by the act at place k of the datagram at place i, the number n, which is asked for, has this word
pub record Gives (from : ℕ) (speech : Speech) (i k n : ℕ) (word : Word) : Type 0 where
  pub datagram : Datagram
  pub act : ℕ → Option Word
  pub stands : slice_get speech i ≡ Some datagram
  pub speaks : slice_get datagram.acts k ≡ Some act
  pub asked : IsAsked from n
  pub says : act n ≡ Some word

-- the datagram at place j has an answer that claims the number n: by a base, a reader claims each number below it that
-- is asked for
pub record Claims (from : ℕ) (speech : Speech) (j n : ℕ) : Type 0 where
  pub datagram : Datagram
  pub base : ℕ
  pub stands : slice_get speech j ≡ Some datagram
  pub answers : Contains datagram.bases base
  pub asked : IsAsked from n
  pub below : n < base

-- the greatest of these numbers, or 0
abbrev pub greatest : List ℕ → ℕ
greatest [] = 0
greatest (n ∷ ns) = max n (greatest ns)

-- the greatest of from - 1 and the numbers that the writer announced
abbrev pub last_announced_from : ℕ → Speech → ℕ
last_announced_from from [] = from - 1
last_announced_from from (datagram ∷ speech) = max (greatest datagram.announced) (last_announced_from from speech)

-- how many datagrams are sent, and the words that the reader holds
pub record DeliveryState : Type 0 where
  pub sent : ℕ
  pub held : List (ℕ × Word)

-- nothing is sent, and no word is held
abbrev pub start : DeliveryState
start = record { sent = 0; held = [] }

-- the reader has a word for the number
abbrev pub Holds : DeliveryState → ℕ → Type 0
Holds state n = (word : Word) × Contains state.held (n, word)

-- what may happen next: the next datagram is sent, or the reader takes one number's word from an act of a datagram that
-- was sent. A loss is a word that is never taken; words come in any order and any number of times
pub data Event : Type 0 where
  Send : Event
  Take : (i k n : ℕ) (word : Word) → Event

-- the reader answers only for numbers that it has a word for (8.4.2.3 "Required RTPS Reader Behavior")
abbrev pub MaySend : ℕ → Speech → DeliveryState → Type 0
MaySend from speech state = (state.sent < length speech) × ((n : ℕ) → Claims from speech state.sent n → Holds state n)

-- the event is allowed in the old state, and leaves the new one. Words are taken only for numbers that are asked for
abbrev pub Step : ℕ → Speech → DeliveryState → Event → DeliveryState → Type 0
Step from speech old Send new = MaySend from speech old × (new ≡ record { sent = suc old.sent; held = old.held })
Step from speech old (Take i k n word) new = (i < old.sent) × Gives from speech i k n word × (new ≡ record { sent = old.sent; held = old.held ++ (n, word) ∷ [] })

-- these events are allowed, one after another
abbrev pub Follows : ℕ → Speech → DeliveryState → List Event → DeliveryState → Type 0
Follows from speech old [] new = new ≡ old
Follows from speech old (event ∷ events) new = (mid : DeliveryState) × Step from speech old event mid × Follows from speech mid events new

-- some list of allowed events leads to the state
abbrev pub IsReached : ℕ → Speech → DeliveryState → Type 0
IsReached from speech state = (events : List Event) × Follows from speech start events state

-- a run is a list of allowed events by which every datagram is sent. Some run ends in the state
abbrev pub Ends : ℕ → Speech → DeliveryState → Type 0
Ends from speech state = IsReached from speech state × (state.sent ≡ length speech)

-- some run sends all that was said
abbrev pub HasRun : ℕ → Speech → Type 0
HasRun from speech = (end : DeliveryState) × Ends from speech end
