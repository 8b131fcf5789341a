use Rattle.std.proofs.Common.{◌≡◌}
use Rattle.std.specs.List.{AllWithin}
use Rattle.rtps_audit.specs.PayloadConflict as payload_conflict
use Rattle.rtps_audit.proofs.payload_conflict.run_end.Given as goal

-- the entries so far have the number
abbrev pub invariant-loop-place : goal.invariant-loop-place
invariant-loop-place l = AllWithin (λ entry. payload_conflict.number_in entry ≡ l.number) l.entries l.start l.place
