use Rattle.std.proofs.Common.{◌≡◌, map, take}
use Rattle.rtps_report.specs.BestEfforts as best_efforts
use Rattle.rtps_report.proofs.best_effort.arrived_among.Given as goal

abbrev pub invariant-loop-one : goal.invariant-loop-one
invariant-loop-one l = map best_efforts.counted_value l.held.items ≡ best_efforts.arrived_among (map best_efforts.counted_value (take l.one-index l.counted))
