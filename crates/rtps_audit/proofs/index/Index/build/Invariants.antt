use Rattle.std.proofs.Common.{take}
use Rattle.rtps_audit.specs.Index as index
use Rattle.rtps_audit.specs.Intake as intake
use Rattle.rtps_audit.proofs.PlacedActs.{octets_of}
use Rattle.rtps_audit.proofs.index.Index.build.Given as goal

-- the index is of the datagrams so far
abbrev pub invariant-loop-datagram : goal.invariant-loop-datagram
invariant-loop-datagram l = index.IsIndexBy (intake.intake_of (octets_of (take l.datagram-index l.recording))) l.index
