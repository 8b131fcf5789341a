-- Which numbers are claimed up to a datagram, and what a reader hears of numbers before that. own: bases only rise, so a payload stands before
-- the first claim of its number exactly where no answer up to its datagram claims it.
use Rattle.std.specs.Prelude.{ℕ, Bool, ◌≡◌, ◌≤◌, ◌&&◌, nat_le, nat_lt, not, List}
use Rattle.std.specs.List.{list_any}
use Rattle.rtps_discovery.specs.declared.matching.Pair.{Pair}
use Rattle.rtps_audit.specs.Placed as placed
use Rattle.rtps_receiver.specs.Said as said
use Rattle.rtps_audit.specs.declared.answer.Answer.{Answer}
use Rattle.rtps_coverage.specs.Rising as rising
use Rattle.rtps_coverage.specs.Stretches as stretches_spec
use Rattle.rtps_coverage.specs.declared.stretch.Stretch.{Stretch}
use Rattle.rtps_evidence.specs.Amount as amount
use Rattle.rtps_evidence.specs.Locations as locations
use Rattle.rtps_evidence.specs.Received as received
use Rattle.rtps_evidence.specs.declared.amount.HeardNumbers.{HeardNumbers}

-- an answer in this datagram or an earlier one claims n
abbrev pub claims_up_to : ℕ → ℕ → Answer → Bool
claims_up_to datagram n answer = nat_le answer.datagram datagram && nat_lt n (said.natural answer.base)

-- these stretches tell how far is claimed up to each datagram
abbrev pub AreClaims : List Answer → List Stretch → Type 0
AreClaims answers claims = (datagram n : ℕ) → rising.some_reaches claims datagram n ≡ list_any (claims_up_to datagram n) answers

-- no answer up to the datagram of an act claims n
abbrev pub is_unclaimed : List Answer → ℕ → placed.PlacedValue → Bool
is_unclaimed answers n placed = not (list_any (claims_up_to placed.datagram n) answers)

-- there the reader hears a payload for n from the writer
abbrev pub sends_early : List Answer → Pair → ℕ → placed.PlacedValue → Bool
sends_early answers pair n placed = is_unclaimed answers n placed && locations.sends pair.writer pair.reader n placed

-- there it hears that n will not come
abbrev pub withdraws_early : List Answer → Pair → ℕ → placed.PlacedValue → Bool
withdraws_early answers pair n placed = is_unclaimed answers n placed && received.withdraws pair.writer pair.reader n placed

-- the numbers are those of which the reader hears by these acts of the writer
abbrev pub AreHeard : List Answer → Pair → List placed.PlacedValue → HeardNumbers → Type 0
AreHeard answers pair acts heard =
    amount.AreNumbers (amount.is_told pair.writer pair.reader acts) (amount.is_sent pair.writer pair.reader acts) (λ n. list_any (sends_early answers pair n) acts)
    (λ n. list_any (withdraws_early answers pair n) acts) heard

-- of the numbers from `from` on, up to the last one, these are the ones that are not received
abbrev pub AreLacking : ℕ → ℕ → Pair → List placed.PlacedValue → List Stretch → Type 0
AreLacking from last pair acts stretches = (n : ℕ) → from ≤ n → n ≤ last → stretches_spec.stretches_have stretches n ≡ not (received.is_received pair.writer pair.reader acts n)
