use Rattle.rtps_evidence.specs.Waits as waits
use Rattle.rtps_evidence.proofs.waits.pass_answers.Given as goal

-- those so far do not stand behind the place
abbrev pub invariant-loop-next : goal.invariant-loop-next
invariant-loop-next l = waits.HasPassed l.answers l.next l.fn.place
