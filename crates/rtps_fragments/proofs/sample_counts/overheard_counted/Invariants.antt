use Rattle.std.proofs.Common.{◌≡◌, map, take}
use Rattle.rtps_audit.specs.Placed as placed_spec
use Rattle.rtps_fragments.specs.Hearing as hearing
use Rattle.rtps_fragments.proofs.sample_counts.overheard_counted.Given as goal

abbrev pub invariant-loop-placed : goal.invariant-loop-placed
invariant-loop-placed l = map placed_spec.placed_value l.all.items ≡ map hearing.for_everyone (map placed_spec.placed_value (take l.placed-index l.acts))
