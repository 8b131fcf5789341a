-- The fragments that are sent before a place of a recording.
use Rattle.std.proofs.Common.{◌≡◌, ℕ, zero, suc, ◌<◌, List, [], ◌∷◌, ◌++◌, Some, slice_get, refl, ◌∙◌, ap, subst, arith, inl, inr, ◌⊎◌, rules}
use Rattle.std.specs.Prelude.{Contains}
use Rattle.std.specs.List.{flat_map}
use Rattle.std.proofs.lemmas.List.Elements.{Contains-append_left, Contains-append_right, Contains-append_cases}
use Rattle.std.proofs.lemmas.Option.{get_or_from_slice_get, slice_get-get_or, slice_get_within}
use Rattle.rtps_audit.specs.Delivery as delivery
use Rattle.rtps_audit.proofs.Offered.{contains_none}
use Rattle.rtps_fragments.specs.FragmentDelivery as fragment_delivery
use Rattle.rtps_fragments.specs.FragmentVerdict as fragment_verdict

-- ---- places in lists

pub place_of : {X : Type 0} (xs : List X) (x : X) → Contains xs x → (k : ℕ) × (slice_get xs k ≡ Some x)
place_of xs x (k, lt, e) = (k, slice_get-get_or xs k x lt ∙ ap Some e)

pub there_at : {X : Type 0} (xs : List X) (k : ℕ) (x : X) → slice_get xs k ≡ Some x → Contains xs x
there_at xs k x e = (k, slice_get_within xs k x e, get_or_from_slice_get xs k x x e)

pub get_left : {X : Type 0} (xs ys : List X) (k : ℕ) (x : X) → slice_get xs k ≡ Some x → slice_get (xs ++ ys) k ≡ Some x
get_left [] ys k x e = cc
get_left (y ∷ xs) ys zero x e = e
get_left (y ∷ xs) ys (suc k) x e = get_left xs ys k x e

pub get_cases : {X : Type 0} (xs ys : List X) (k : ℕ) (x : X) → slice_get (xs ++ ys) k ≡ Some x → (slice_get xs k ≡ Some x) ⊎ Contains ys x
get_cases [] ys k x e = inr (there_at ys k x e)
get_cases (y ∷ xs) ys zero x e = inl e
get_cases (y ∷ xs) ys (suc k) x e = get_cases xs ys k x e

-- ---- the fragments before a place

abbrev pub fragments_before : fragment_delivery.FragmentSpeech → ℕ → List fragment_delivery.Fragment
fragments_before [] j = []
fragments_before (datagram ∷ speech) zero = []
fragments_before (datagram ∷ speech) (suc j) = flat_map fragment_delivery.fragments_of datagram.pieces ++ fragments_before speech j

-- a fragment of some piece
pub in_piece : (pieces : List fragment_delivery.Piece) (f : fragment_delivery.Fragment) → Contains (flat_map fragment_delivery.fragments_of pieces) f → (k : ℕ) × (piece : fragment_delivery.Piece) × (slice_get pieces k ≡ Some piece) × Contains (fragment_delivery.fragments_of piece) f
in_piece [] f among = absurd (contains_none f among)
in_piece (piece ∷ pieces) f among = elim (Contains-append_cases (fragment_delivery.fragments_of piece) (flat_map fragment_delivery.fragments_of pieces) f among) [
  | inl here ↦ (0, piece, refl, here)
  | inr there ↦ let (k, found, at, has) = in_piece pieces f there in (suc k, found, at, has)
]

of_piece : (pieces : List fragment_delivery.Piece) (k : ℕ) (piece : fragment_delivery.Piece) (f : fragment_delivery.Fragment) → slice_get pieces k ≡ Some piece → Contains (fragment_delivery.fragments_of piece) f → Contains (flat_map fragment_delivery.fragments_of pieces) f
of_piece [] k piece f at has = cc
of_piece (p ∷ pieces) zero piece f at has =
    let same : piece ≡ p = (let h = at in cc) in
    Contains-append_left (fragment_delivery.fragments_of p) (flat_map fragment_delivery.fragments_of pieces) f (subst (λ (x : fragment_delivery.Piece). Contains (fragment_delivery.fragments_of x) f) same has)
of_piece (p ∷ pieces) (suc k) piece f at has = Contains-append_right (fragment_delivery.fragments_of p) (flat_map fragment_delivery.fragments_of pieces) f (of_piece pieces k piece f at has)

-- what a datagram gives is among the fragments before a later place
before_has : (speech : fragment_delivery.FragmentSpeech) (i j : ℕ) (datagram : fragment_delivery.FragmentDatagram) (f : fragment_delivery.Fragment) → i < j → slice_get speech i ≡ Some datagram → Contains (flat_map fragment_delivery.fragments_of datagram.pieces) f → Contains (fragments_before speech j) f
before_has [] i j datagram f lt at has = cc
before_has (d ∷ speech) i zero datagram f lt at has = absurd (omega arith)
before_has (d ∷ speech) zero (suc j) datagram f lt at has =
    let same : datagram ≡ d = (let h = at in cc) in
    Contains-append_left (flat_map fragment_delivery.fragments_of d.pieces) (fragments_before speech j) f (subst (λ (x : fragment_delivery.FragmentDatagram). Contains (flat_map fragment_delivery.fragments_of x.pieces) f) same has)
before_has (d ∷ speech) (suc i) (suc j) datagram f lt at has =
    Contains-append_right (flat_map fragment_delivery.fragments_of d.pieces) (fragments_before speech j) f (before_has speech i j datagram f (omega arith) at has)

pub sent_is_before : {from : ℕ} (speech : fragment_delivery.FragmentSpeech) (j : ℕ) (f : fragment_delivery.Fragment) → fragment_verdict.IsSentBefore from speech j f → Contains (fragments_before speech j) f
sent_is_before speech j f sent = search (rules, before_has, of_piece)

-- a datagram before a place has it
before_from : (speech : fragment_delivery.FragmentSpeech) (j : ℕ) (f : fragment_delivery.Fragment) → Contains (fragments_before speech j) f
    → (i : ℕ) × (datagram : fragment_delivery.FragmentDatagram) × (i < j) × (slice_get speech i ≡ Some datagram) × Contains (flat_map fragment_delivery.fragments_of datagram.pieces) f
before_from [] j f among = absurd (contains_none f among)
before_from (d ∷ speech) zero f among = absurd (contains_none f among)
before_from (d ∷ speech) (suc j) f among = elim (Contains-append_cases (flat_map fragment_delivery.fragments_of d.pieces) (fragments_before speech j) f among) [
  | inl here ↦ (0, d, omega arith, refl, here)
  | inr there ↦ let (i, datagram, lt, at, has) = before_from speech j f there in (suc i, datagram, omega arith, at, has)
]

pub sent_by : {from : ℕ} (speech : fragment_delivery.FragmentSpeech) (i j : ℕ) (datagram : fragment_delivery.FragmentDatagram) (f : fragment_delivery.Fragment) → i < j → slice_get speech i ≡ Some datagram → Contains (flat_map fragment_delivery.fragments_of datagram.pieces) f → delivery.IsAsked from f.number
    → fragment_verdict.IsSentBefore from speech j f
sent_by speech i j datagram f lt at has asked =
    let (k, piece, speaks, there) = in_piece datagram.pieces f has in
    record { place = i; piece = k; earlier = lt; gives = record { datagram = datagram; piece = piece; stands = at; speaks = speaks; asked = asked; has = there } }

-- all of them are sent, where their numbers are asked for
pub all_sent : {from : ℕ} (speech : fragment_delivery.FragmentSpeech) (j : ℕ) (f : fragment_delivery.Fragment) → Contains (fragments_before speech j) f → delivery.IsAsked from f.number → fragment_verdict.IsSentBefore from speech j f
all_sent speech j f among asked =
    let (i, datagram, lt, at, has) = before_from speech j f among in
    sent_by speech i j datagram f lt at has asked
