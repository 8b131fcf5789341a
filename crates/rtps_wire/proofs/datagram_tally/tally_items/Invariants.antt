use Rattle.std.proofs.Common.{◌≡◌, ◌<◌, ◌≤◌, ◌^◌, ◌+◌, length}
use Rattle.std.specs.Prelude.{◌||◌, is_some}
use Rattle.rtps_wire.specs.Reading as reading
use Rattle.rtps_wire.specs.Tally as tally
use Rattle.rtps_wire.proofs.datagram_tally.tally_items.Given as goal

-- what is counted so far and what is left are all
abbrev pub invariant-loop-outcome : goal.invariant-loop-outcome
invariant-loop-outcome l =
    let left = reading.outcomes_left l.outcome-iterator in
    let all = reading.outcomes_left l.initial.outcome-iterator in
    (goal.iterator-loop-outcome).can_next l.outcome-iterator
    × (goal.iterator-loop-outcome).is_finite l.outcome-iterator
    × (length all < 2 ^ 64)
    × (l.tally.skipped + length left ≤ length all)
    × (l.tally.fragments + length left ≤ length all)
    × (l.tally.skipped + tally.skipped_in (reading.items_among left) ≡ tally.skipped_in (reading.items_among all))
    × (l.tally.fragments + tally.fragments_in (reading.items_among left) ≡ tally.fragments_in (reading.items_among all))
    × ((l.tally.refused || is_some (reading.refusal_among left)) ≡ is_some (reading.refusal_among all))
