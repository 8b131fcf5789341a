use Rattle.std.proofs.Common.{take}
use Rattle.rtps_audit.proofs.PayloadHearing.{IsHeardSoFar}
use Rattle.rtps_audit.proofs.payload_conflict.PayloadConflicts.least_for.Given as goal

-- what the reader heard so far
abbrev pub invariant-loop-place : goal.invariant-loop-place
invariant-loop-place l = IsHeardSoFar (take l.place l.self.payloads.items) l.reader l.before
