use Rattle.std.proofs.Common.{◌≡◌, ◌++◌, [], length, map}
use Rattle.rtps_wire.specs.Reading as reading
use Rattle.rtps_receiver.specs.Acts as acts
use Rattle.rtps_receiver.specs.Values as values
use Rattle.rtps_receiver.proofs.walk.push_data.Given as goal

-- the DATA that were read so far and those of what is left are all
abbrev pub invariant-items : goal.invariant-items
invariant-items l =
    map values.spoken_value l.acts.items ++ acts.data_among (acts.acts_behind l.state [] (reading.items_among (reading.outcomes_left l.items)))
    ≡ acts.data_among (acts.acts_behind l.fn.start [] (reading.items_among (reading.outcomes_left l.fn.items)))

abbrev pub decreases-items : goal.decreases-items
decreases-items l = length (reading.outcomes_left l.items)
