use Rattle.std.proofs.Common.{◌≡◌, map, take}
use Rattle.rtps_json.specs.JsonText.{clock_times, range_json}
use Rattle.rtps_json.specs.Values.{items_json}
use Rattle.rtps_json.proofs.number_members.ranges_value.Given as goal

abbrev pub invariant-loop-range : goal.invariant-loop-range
invariant-loop-range l = items_json l.values.items ≡ map (range_json (clock_times l.clock)) (take l.range-index l.ranges)
