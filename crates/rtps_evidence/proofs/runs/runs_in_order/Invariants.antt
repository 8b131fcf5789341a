use Rattle.rtps_evidence.proofs.KindLemmas.{IsRunning}
use Rattle.rtps_evidence.proofs.runs.runs_in_order.Given as goal

-- the run at hand behind the stretches so far
abbrev pub invariant-loop-stretch : goal.invariant-loop-stretch
invariant-loop-stretch l = IsRunning l.stretches l.fn.from l.fn.end l.stretch-index l.runs.items l.run
