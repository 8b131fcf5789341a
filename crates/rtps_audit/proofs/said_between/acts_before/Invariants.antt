use Rattle.std.proofs.Common.{◌≡◌, nat_lt, filter, take}
use Rattle.rtps_audit.specs.declared.placed.Placed.{Placed}
use Rattle.rtps_audit.proofs.said_between.acts_before.Given as goal

-- those so far stand before the datagram
abbrev pub invariant-loop-place : goal.invariant-loop-place
invariant-loop-place l = filter (λ (at : Placed). nat_lt at.datagram l.datagram) (take l.place l.acts) ≡ take l.place l.acts
