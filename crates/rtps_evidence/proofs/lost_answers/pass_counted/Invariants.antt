use Rattle.rtps_evidence.specs.CountedAnswers as counted_answers
use Rattle.rtps_evidence.proofs.lost_answers.pass_counted.Given as goal

-- those so far do not stand behind the place
abbrev pub invariant-loop-next : goal.invariant-loop-next
invariant-loop-next l = counted_answers.HasPassedCounted l.answers l.next l.fn.place
