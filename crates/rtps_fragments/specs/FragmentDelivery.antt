-- Delivery of one writer's numbers to one reader that takes samples whole or in fragments. DDSI-RTPS 2.5, 8.3.8.3 "DataFrag" and
-- 8.4 "Behavior Module". What is said of words, answers and announced numbers, and the number `from`, are those of delivery without
-- fragments.
use Rattle.std.specs.Prelude.{ℕ, suc, ◌<◌, ◌≡◌, ◌⊎◌, if◌then◌else◌, List, [], ◌∷◌, ◌++◌, length, map, Some, slice_get, Contains}
use Rattle.std.specs.List.{concat}
use Rattle.rtps_wire.specs.Values as values
use Rattle.rtps_audit.specs.Delivery as delivery
use Rattle.rtps_wire.specs.DataFrag as data_frag
use Rattle.rtps_wire.specs.declared.data_frag.Shape.{Shape}

-- the payload of a sample of these octets
abbrev pub payload_by : Shape → List ℕ → values.PayloadValue
payload_by shape octets = if shape.is_key then values.PayloadValue.Key octets else values.PayloadValue.Whole octets

-- one fragment of a sample: the number that the sample has, its shape, the number of the fragment, and the fragment's octets
pub record Fragment : Type 0 where
  pub number : ℕ
  pub shape : Shape
  pub index : ℕ
  pub octets : List ℕ

-- a DATA_FRAG: the number and the shape of its sample, and the octets of consecutive fragments, the first of which has this number
pub record Piece : Type 0 where
  pub number : ℕ
  pub shape : Shape
  pub first : ℕ
  pub parts : List (List ℕ)

-- consecutive fragments of these octets, from this one on
abbrev pub fragments_from : ℕ → Shape → ℕ → List (List ℕ) → List Fragment
fragments_from n shape i [] = []
fragments_from n shape i (octets ∷ parts) = record { number = n; shape = shape; index = i; octets = octets } ∷ fragments_from n shape (suc i) parts

-- the fragments of a piece
abbrev pub fragments_of : Piece → List Fragment
fragments_of piece = fragments_from piece.number piece.shape piece.first piece.parts

-- what one datagram says of the writer and the reader: all that is said without fragments, and the pieces that the reader hears from
-- the writer
pub record FragmentDatagram : Type 0 where
  pub said : delivery.Datagram
  pub pieces : List Piece

-- the datagrams of a recording in the order of sending
abbrev pub FragmentSpeech : Type 0
FragmentSpeech = List FragmentDatagram

-- what they say without fragments
abbrev pub said_in : FragmentSpeech → delivery.Speech
said_in speech = map (λ datagram. datagram.said) speech

-- the piece at place k of the datagram at place i has this fragment, of a number that is asked for
pub record GivesFragment (from : ℕ) (speech : FragmentSpeech) (i k : ℕ) (fragment : Fragment) : Type 0 where
  pub datagram : FragmentDatagram
  pub piece : Piece
  pub stands : slice_get speech i ≡ Some datagram
  pub speaks : slice_get datagram.pieces k ≡ Some piece
  pub asked : delivery.IsAsked from fragment.number
  pub has : Contains (fragments_of piece) fragment

-- Of one shape, each fragment of number n is among those that there are, and the payload is their octets in order. A sample has
-- one fragment or more.
pub record IsPutTogether (there : Fragment → Type 0) (n : ℕ) (payload : values.PayloadValue) : Type 0 where
  pub shape : Shape
  pub parts : List (List ℕ)
  pub some : 0 < length parts
  pub all : length parts ≡ data_frag.last_fragment shape
  pub each : (i : ℕ) (octets : List ℕ) → slice_get parts i ≡ Some octets → there (record { number = n; shape = shape; index = suc i; octets = octets })
  pub payload_is : payload ≡ payload_by shape (concat parts)

-- the payload of n is told by a word that there is, or can be put together of fragments that there are
abbrev pub HasPayloadOf : (ℕ → delivery.Word → Type 0) → (Fragment → Type 0) → ℕ → values.PayloadValue → Type 0
HasPayloadOf said there n payload = said n (delivery.Word.Told payload) ⊎ IsPutTogether there n payload

-- by these words and fragments there is a word for n: that it will not come, or a payload
abbrev pub HasWordOf : (ℕ → delivery.Word → Type 0) → (Fragment → Type 0) → ℕ → Type 0
HasWordOf said there n = said n delivery.Word.Gone ⊎ ((payload : values.PayloadValue) × HasPayloadOf said there n payload)

-- how many datagrams are sent, and the words and the fragments that the reader holds
pub record FragmentState : Type 0 where
  pub sent : ℕ
  pub held : List (ℕ × delivery.Word)
  pub fragments : List Fragment

-- nothing is sent, and nothing is held
abbrev pub fragment_start : FragmentState
fragment_start = record { sent = 0; held = []; fragments = [] }

-- the reader holds the word of the number
abbrev pub HoldsWord : FragmentState → ℕ → delivery.Word → Type 0
HoldsWord state n word = Contains state.held (n, word)

-- the reader holds the fragment
abbrev pub HoldsFragment : FragmentState → Fragment → Type 0
HoldsFragment state fragment = Contains state.fragments fragment

-- the reader was given the payload of n, or can put it together
abbrev pub HasPayload : FragmentState → ℕ → values.PayloadValue → Type 0
HasPayload state n payload = HasPayloadOf (HoldsWord state) (HoldsFragment state) n payload

-- the reader has a word for the number
abbrev pub HasWord : FragmentState → ℕ → Type 0
HasWord state n = HasWordOf (HoldsWord state) (HoldsFragment state) n

-- what may happen next: the next datagram is sent, or the reader takes one number's word from an act, or one fragment from a
-- piece, of a datagram that was sent. A loss is what is never taken
pub data FragmentEvent : Type 0 where
  Send : FragmentEvent
  Take : (i k n : ℕ) (word : delivery.Word) → FragmentEvent
  TakeFragment : (i k : ℕ) (fragment : Fragment) → FragmentEvent

-- the reader answers only for numbers that it has a word for (8.4.2.3 "Required RTPS Reader Behavior")
abbrev pub MaySendFragments : ℕ → FragmentSpeech → FragmentState → Type 0
MaySendFragments from speech state = (state.sent < length speech) × ((n : ℕ) → delivery.Claims from (said_in speech) state.sent n → HasWord state n)

-- the event is allowed in the old state, and leaves the new one
abbrev pub FragmentStep : ℕ → FragmentSpeech → FragmentState → FragmentEvent → FragmentState → Type 0
FragmentStep from speech old Send new = MaySendFragments from speech old × (new ≡ record { sent = suc old.sent; held = old.held; fragments = old.fragments })
FragmentStep from speech old (Take i k n word) new =
    (i < old.sent) × delivery.Gives from (said_in speech) i k n word × (new ≡ record { sent = old.sent; held = old.held ++ (n, word) ∷ []; fragments = old.fragments })
FragmentStep from speech old (TakeFragment i k fragment) new =
    (i < old.sent) × GivesFragment from speech i k fragment × (new ≡ record { sent = old.sent; held = old.held; fragments = old.fragments ++ fragment ∷ [] })

-- these events are allowed, one after another
abbrev pub FragmentsFollow : ℕ → FragmentSpeech → FragmentState → List FragmentEvent → FragmentState → Type 0
FragmentsFollow from speech old [] new = new ≡ old
FragmentsFollow from speech old (event ∷ events) new = (mid : FragmentState) × FragmentStep from speech old event mid × FragmentsFollow from speech mid events new

-- some list of allowed events leads to the state
abbrev pub IsFragmentReached : ℕ → FragmentSpeech → FragmentState → Type 0
IsFragmentReached from speech state = (events : List FragmentEvent) × FragmentsFollow from speech fragment_start events state

-- a run is a list of allowed events by which every datagram is sent. Some run ends in the state
abbrev pub FragmentsEnd : ℕ → FragmentSpeech → FragmentState → Type 0
FragmentsEnd from speech state = IsFragmentReached from speech state × (state.sent ≡ length speech)

-- some run sends all that was said
abbrev pub HasFragmentRun : ℕ → FragmentSpeech → Type 0
HasFragmentRun from speech = (end : FragmentState) × FragmentsEnd from speech end
