use Rattle.std.proofs.Common.{map, take}
use Rattle.rtps_audit.specs.Placed as placed_spec
use Rattle.rtps_fragments.specs.Hearing as hearing_spec
use Rattle.rtps_fragments.proofs.hearing.heard_of.Given as goal

-- what the reader hears of the acts so far
abbrev pub invariant-loop-placed : goal.invariant-loop-placed
invariant-loop-placed l = hearing_spec.IsHearing l.fn.reader (map placed_spec.placed_value (take l.placed-index l.acts)) l.hearing
