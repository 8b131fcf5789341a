use Rattle.std.proofs.Common.{◌≡◌, ◌<◌, ◌≤◌, ◌^◌, ◌+◌, ◌++◌, [], length, map}
use Rattle.std.specs.Prelude.{◌||◌, is_some}
use Rattle.rtps_wire.specs.Reading as reading
use Rattle.rtps_wire.specs.Tally as tally
use Rattle.rtps_receiver.specs.Acts as acts
use Rattle.rtps_receiver.specs.Values as values
use Rattle.rtps_receiver.proofs.walk.push_acts.Given as goal

-- what is read so far and what is left are all
abbrev pub invariant-items : goal.invariant-items
invariant-items l =
    let left = reading.outcomes_left l.items in
    let all = reading.outcomes_left l.fn.items in
    (length all < 2 ^ 64)
    × (l.tally.skipped + length left ≤ length all)
    × (l.tally.fragments + length left ≤ length all)
    × (l.tally.skipped + tally.skipped_in (reading.items_among left) ≡ tally.skipped_in (reading.items_among all))
    × (l.tally.fragments + tally.fragments_in (reading.items_among left) ≡ tally.fragments_in (reading.items_among all))
    × ((l.tally.refused || is_some (reading.refusal_among left)) ≡ is_some (reading.refusal_among all))
    × (map values.spoken_value l.acts.items ++ acts.acts_behind l.state [] (reading.items_among left) ≡ acts.acts_behind l.fn.start [] (reading.items_among all))

abbrev pub decreases-items : goal.decreases-items
decreases-items l = length (reading.outcomes_left l.items)
