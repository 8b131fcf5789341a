use Rattle.std.proofs.Common.{◌≡◌, take}
use Rattle.std.specs.List.{All}
use Rattle.rtps_wire.specs.Values as values
use Rattle.rtps_audit.specs.declared.payload_conflict.AddressedPayload.{AddressedPayload}
use Rattle.rtps_audit.proofs.payload_conflict.has_other.Given as goal

-- the entries so far have the payload
abbrev pub invariant-loop-place : goal.invariant-loop-place
invariant-loop-place l = All (λ (entry : AddressedPayload). values.payload_value entry.payload.now ≡ values.payload_value l.payload) (take l.place l.entries)
