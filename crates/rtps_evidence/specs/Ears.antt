-- Listeners that are told acts, each the same ones. own: the acts of a writer are gone through once for all its readers.
use Rattle.std.specs.Prelude.{ℕ, Bool, true, ◌≡◌, ◌<◌, nat_lt, length, slice_index_or, List, Option, Some, None}
use Rattle.rtps_audit.specs.Placed as placed

-- each of the ears has heard these acts, since it was as at first
abbrev pub HaveHeard : {E : Type 0} → (E → List placed.PlacedValue → E → Type 0) → List E → List placed.PlacedValue → List E → Type 0
HaveHeard {E} has_heard starts acts ears = (length ears ≡ length starts) × ((k : ℕ) (d : E) → k < length starts → has_heard (slice_index_or starts k d) acts (slice_index_or ears k d))

-- an act stands before a datagram; each does, where there is none
abbrev pub is_until : Option ℕ → placed.PlacedValue → Bool
is_until None placed = true
is_until (Some datagram) placed = nat_lt placed.datagram datagram
