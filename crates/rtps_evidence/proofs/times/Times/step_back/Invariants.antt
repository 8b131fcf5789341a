use Rattle.std.proofs.Common.{◌≡◌, take}
use Rattle.rtps_evidence.specs.Times as times
use Rattle.rtps_evidence.proofs.times.Times.step_back.Given as goal

-- the end and the greatest step so far
abbrev pub invariant-loop-place : goal.invariant-loop-place
invariant-loop-place l = record {
  latest : l.latest ≡ times.end_of (take l.place l.self.of_datagrams);
  step : l.step ≡ times.step_back (take l.place l.self.of_datagrams);
}
