use Rattle.std.proofs.Common.{ℕ, ◌≡◌, false, map, take}
use Rattle.std.specs.List.{list_any}
use Rattle.rtps_ids.specs.declared.identity.Guid.{Guid}
use Rattle.rtps_audit.specs.Placed as placed
use Rattle.rtps_evidence.specs.Missed as missed
use Rattle.rtps_evidence.proofs.reader_notes.ask_for_some.Given as goal

-- none so far asks
abbrev pub invariant-loop-placed : goal.invariant-loop-placed
invariant-loop-placed l = (writer reader : Guid) (n : ℕ) → list_any (missed.asks_for writer reader n) (map placed.placed_value (take l.placed-index l.acts)) ≡ false
