use Rattle.std.proofs.Common.{◌≡◌, length}
use Rattle.rtps_wire.specs.Reading as reading
use Rattle.rtps_receiver.specs.Acts as acts
use Rattle.rtps_receiver.proofs.receiver.ActsIterator.next.Given as goal

-- what is left behind the items that were heard is all that was left
abbrev pub invariant-loop-outcome : goal.invariant-loop-outcome
invariant-loop-outcome l = acts.acts_left (record { state = l.self-inside.state; unread = l.self-inside.items }) ≡ acts.acts_left l.fn.self

abbrev pub decreases-loop-outcome : goal.decreases-loop-outcome
decreases-loop-outcome l = length (reading.outcomes_left l.self-inside.items)
