use Rattle.std.proofs.Common.{◌<◌}
use Rattle.std.specs.List.{AllWithin}
use Rattle.rtps_audit.specs.declared.placed.Placed.{Placed}
use Rattle.rtps_audit.proofs.accounts.end_before.Given as goal

-- the acts so far stand before it
abbrev pub invariant-loop-place : goal.invariant-loop-place
invariant-loop-place l = AllWithin (λ (at : Placed). at.datagram < l.datagram) l.acts l.start l.place
