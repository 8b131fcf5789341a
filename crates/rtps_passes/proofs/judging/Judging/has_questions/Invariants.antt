use Rattle.std.proofs.Common.{take}
use Rattle.std.specs.List.{All}
use Rattle.rtps_passes.specs.Judging as judging
use Rattle.rtps_passes.proofs.judging.Judging.has_questions.Given as goal

-- the writers so far have none
abbrev pub invariant-loop-judged : goal.invariant-loop-judged
invariant-loop-judged l = All judging.HasNoQuestions (take l.judged-index l.judged-items)
