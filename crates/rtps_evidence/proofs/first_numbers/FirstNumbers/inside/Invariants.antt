use Rattle.std.proofs.Common.{◌-◌}
use Rattle.rtps_coverage.specs.Stretches as stretches
use Rattle.rtps_evidence.proofs.FirstNumbersLemmas.{AreKept}
use Rattle.rtps_evidence.proofs.first_numbers.FirstNumbers.inside.Given as goal

-- the numbers so far are found
abbrev pub invariant-numbers : goal.invariant-numbers
invariant-numbers l = AreKept (stretches.stretches_have l.stretches) l.fn.from l.end l.at l.first

abbrev pub decreases-numbers : goal.decreases-numbers
decreases-numbers l = l.end - l.at
