use Rattle.std.proofs.Common.{◌≡◌, ◌++◌, filter, map, take}
use Rattle.rtps_receiver.specs.Speech as speech
use Rattle.rtps_audit.specs.Placed as placed
use Rattle.rtps_evidence.proofs.words.add_answers.Given as goal

abbrev pub invariant-loop-placed : goal.invariant-loop-placed
invariant-loop-placed l = map placed.placed_value l.words.items
    ≡ map placed.placed_value l.initial.words.items ++ filter (λ at. speech.is_answer at.act l.pair.reader l.pair.writer) (map placed.placed_value (take l.placed-index l.acts))
