use Rattle.rtps_evidence.proofs.FrameNumberLemmas.{AreRuns}
use Rattle.rtps_evidence.proofs.frame_numbers.runs_of.Given as goal

abbrev pub invariant-loop-place : goal.invariant-loop-place
invariant-loop-place l = record { runs : AreRuns l.frames l.place l.last l.runs.items }
