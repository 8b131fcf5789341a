use Rattle.std.proofs.Common.{take}
use Rattle.std.specs.List.{All}
use Rattle.rtps_audit.specs.PayloadConflict as payload_conflict
use Rattle.rtps_passes.proofs.KeptLemmas.{AreEntries}
use Rattle.rtps_passes.proofs.kept_payloads.entries_of.Given as goal

-- the entries so far
abbrev pub invariant-loop-one : goal.invariant-loop-one
invariant-loop-one l = record { in_range : All payload_conflict.IsInRange l.entries.items; of : AreEntries l.entries.items (take l.one-index l.kept) }
