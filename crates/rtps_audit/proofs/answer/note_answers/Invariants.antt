use Rattle.std.proofs.Common.{◌-◌, ◌≤◌, length, map, take}
use Rattle.rtps_receiver.specs.Values as values
use Rattle.rtps_audit.specs.Placed as placed
use Rattle.rtps_audit.proofs.answer.note_answers.Given as goal

-- the answers of the acts so far
abbrev pub invariant-runs : goal.invariant-runs
invariant-runs l = record {
  within : l.start ≤ length l.acts;
  added : placed.AddsAnswers l.fn.answers.readers l.answers.readers (placed.placed_at l.datagram (map values.spoken_value (take l.start l.acts)));
}

abbrev pub decreases-runs : goal.decreases-runs
decreases-runs l = length l.acts - l.start
