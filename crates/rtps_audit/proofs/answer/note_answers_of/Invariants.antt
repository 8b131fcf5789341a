use Rattle.std.proofs.Common.{map, take}
use Rattle.rtps_receiver.specs.Values as values
use Rattle.rtps_audit.specs.Placed as placed
use Rattle.rtps_audit.proofs.answer.note_answers_of.Given as goal

-- the answers of the acts so far
abbrev pub invariant-loop-act : goal.invariant-loop-act
invariant-loop-act l = placed.AddsAnswersOf l.fn.reader l.fn.answers.map l.answers.map (placed.placed_at l.datagram (map values.spoken_value (take l.act-index l.run)))
