use Rattle.std.proofs.Common.{◌<◌, ◌^◌, map, take}
use Rattle.std.specs.Prelude.{IfSome}
use Rattle.std.specs.List.{list_any}
use Rattle.rtps_audit.specs.Placed as placed
use Rattle.rtps_evidence.specs.Missed as missed
use Rattle.rtps_evidence.specs.Spans as spans
use Rattle.rtps_evidence.proofs.newcomer.least_brought.Given as goal

-- the least so far
abbrev pub invariant-loop-placed : goal.invariant-loop-placed
invariant-loop-placed l = record { least : spans.IsLeastFrom (λ n. list_any (missed.brings_behind l.fn.listener.since l.fn.listener.pair.writer l.fn.listener.pair.reader n) (map placed.placed_value (take l.placed-index l.acts))) l.fn.lo l.least; in_range : IfSome l.least (λ number. number < 2 ^ 63) }
