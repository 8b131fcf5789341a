use Rattle.std.proofs.Common.{◌≡◌, take, None}
use Rattle.std.specs.List.{last_or}
use Rattle.std.specs.Option.{option_map}
use Rattle.rtps_evidence.specs.Questions as questions
use Rattle.rtps_evidence.proofs.questions.last_place.Given as goal

-- the last of the answers so far
abbrev pub invariant-loop-answer : goal.invariant-loop-answer
invariant-loop-answer l = l.last ≡ option_map questions.place_of (last_or None (take l.answer-index l.answers))
