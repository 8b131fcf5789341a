-- The samples that a reader is told by the fragments that it hears. DDSI-RTPS 2.5, 8.3.8.3 "DataFrag". own: the standard does not say
-- what a reader makes of a fragment that comes twice with different octets; of each sample one payload is told, and a second one where
-- some fragment came so, which is enough for a conflict.
use Rattle.std.specs.Prelude.{ℕ, zero, suc, pred, Bool, false, not, nat_lt, ◌==◌, ◌&&◌, if◌then◌else◌, List, [], ◌∷◌, ◌++◌, length, map, drop, slice_set, Option, Some, None}
use Rattle.std.specs.List.{concat, filter_map, find, flat_map}
use Rattle.std.specs.Str.{bytes_eq}
use Rattle.rtps_wire.specs.Values as values
use Rattle.rtps_audit.specs.Delivery as delivery
use Rattle.rtps_wire.specs.declared.data_frag.Shape.{Shape}
use Rattle.rtps_wire.specs.DataFrag as data_frag
use Rattle.rtps_fragments.specs.FragmentDelivery as fragment_delivery

-- ---- the payloads of one sample. What came of it is a list: for each fragment that came, in order, its number and its octets

-- the octets that came first for this fragment
abbrev pub first_of : List (ℕ × List ℕ) → ℕ → Option (List ℕ)
first_of [] i = None
first_of (one ∷ rest) i = if i == one.0 then Some one.1 else first_of rest i

-- these are octets, and others
abbrev pub differs : Option (List ℕ) → List ℕ → Bool
differs None octets = false
differs (Some first) octets = not (bytes_eq first octets)

-- a fragment came with other octets than those that came first for it
abbrev pub is_other : List (ℕ × List ℕ) → ℕ × List ℕ → Bool
is_other came one = differs (first_of came one.0) one.1

-- an element before all these
abbrev pub cons_some : {X : Type 0} → Option X → Option (List X) → Option (List X)
cons_some (Some x) (Some xs) = Some (x ∷ xs)
cons_some (Some x) None = None
cons_some None xs = None

-- the octets of so many parts, if each has some
abbrev pub parts_by : (ℕ → Option (List ℕ)) → ℕ → Option (List (List ℕ))
parts_by octets zero = Some []
parts_by octets (suc count) = cons_some (octets 0) (parts_by (λ i. octets (suc i)) count)

-- the octets that came first for each fragment from 1 to the last one, if each came. A sample has one fragment or more
abbrev pub firsts_of : List (ℕ × List ℕ) → ℕ → Option (List (List ℕ))
firsts_of came zero = None
firsts_of came (suc last) = parts_by (λ i. first_of came (suc i)) (suc last)

-- none where some fragment did not come; the first octets of each; and where a fragment came with others too, the same with these in
-- their place
abbrev pub samples_by : Option (List (List ℕ)) → Option (ℕ × List ℕ) → List (List ℕ)
samples_by None other = []
samples_by (Some parts) None = concat parts ∷ []
samples_by (Some parts) (Some other) = concat parts ∷ concat (slice_set parts (pred other.0) other.1) ∷ []

-- the octets of the samples that are put together of all that came. Of several other octets those that came first are taken
abbrev pub samples_of : ℕ → List (ℕ × List ℕ) → List (List ℕ)
samples_of last came = samples_by (firsts_of came last) (find (is_other came) came)

-- there is one
abbrev pub has_sample : ℕ → List (ℕ × List ℕ) → Bool
has_sample last came = nat_lt 0 (length (samples_of last came))

-- ---- what a reader is told

-- two shapes are the same
abbrev pub is_shape : Shape → Shape → Bool
is_shape one other = (one.sample == other.sample) && ((one.fragment == other.fragment) && (if one.is_key then other.is_key else not other.is_key))

-- the sample is that of number n in this shape
abbrev pub is_of : ℕ → Shape → ℕ → Shape → Bool
is_of n shape number other = (number == n) && is_shape other shape

-- a fragment as part of the sample of number n in a shape, if it is of it
abbrev pub came_of : ℕ → Shape → fragment_delivery.Fragment → Option (ℕ × List ℕ)
came_of n shape fragment = if is_of n shape fragment.number fragment.shape then Some (fragment.index, fragment.octets) else None

-- the payloads of n that fragments of this shape are put together to
abbrev pub payloads_of : ℕ → Shape → List fragment_delivery.Fragment → List values.PayloadValue
payloads_of n shape fragments = map (fragment_delivery.payload_by shape) (samples_of (data_frag.last_fragment shape) (filter_map (came_of n shape) fragments))

-- the payloads that a piece tells: those that could not be put together of the fragments before it
abbrev pub told_by : List fragment_delivery.Fragment → fragment_delivery.Piece → List values.PayloadValue
told_by before piece = drop (length (payloads_of piece.number piece.shape before)) (payloads_of piece.number piece.shape (before ++ fragment_delivery.fragments_of piece))

-- the payload as the word of one number, and of no other
abbrev pub tell : ℕ → values.PayloadValue → ℕ → Option delivery.Word
tell number payload n = if number == n then Some (delivery.Word.Told payload) else None

-- what each of these pieces tells
abbrev pub acts_told : List fragment_delivery.Fragment → List fragment_delivery.Piece → List (ℕ → Option delivery.Word)
acts_told before [] = []
acts_told before (piece ∷ pieces) = map (tell piece.number) (told_by before piece) ++ acts_told (before ++ fragment_delivery.fragments_of piece) pieces

-- all that a datagram says, with the samples that its pieces tell as further words
abbrev pub datagram_told : List fragment_delivery.Fragment → fragment_delivery.FragmentDatagram → delivery.Datagram
datagram_told before datagram = record { acts = datagram.said.acts ++ acts_told before datagram.pieces; bases = datagram.said.bases; announced = datagram.said.announced }

-- of each datagram, where these fragments were heard before
abbrev pub speech_told : List fragment_delivery.Fragment → fragment_delivery.FragmentSpeech → delivery.Speech
speech_told before [] = []
speech_told before (datagram ∷ speech) = datagram_told before datagram ∷ speech_told (before ++ flat_map fragment_delivery.fragments_of datagram.pieces) speech

-- the recording into which the samples are told
abbrev pub told_in : fragment_delivery.FragmentSpeech → delivery.Speech
told_in speech = speech_told [] speech
