use Rattle.std.proofs.Common.{subst, sym}
use Rattle.rtps_coverage.specs.Stretches as stretches
use Rattle.rtps_evidence.specs.Outcomes as outcomes
use Rattle.rtps_evidence.specs.Silences as silences
use Rattle.rtps_evidence.proofs.silence.SilentNumbers.new.Goals as goal

pub returns-clause-none : goal.returns-clause-none
returns-clause-none c = λ n. subst (λ l. silences.IsAt n outcomes.Silence.Unasked c.new.result (stretches.stretches_have l n)) (sym c.new-2.ensures.items) (c.new.ensures n)
