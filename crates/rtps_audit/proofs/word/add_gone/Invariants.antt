use Rattle.std.proofs.Common.{◌-◌, ◌^◌}
use Rattle.rtps_coverage.specs.Coverage as coverage
use Rattle.rtps_receiver.specs.Said as said
use Rattle.rtps_receiver.proofs.Offered.{below}
use Rattle.rtps_audit.proofs.word.add_gone.Given as goal

-- the numbers of the ranges so far
abbrev pub invariant-apart : goal.invariant-apart
invariant-apart g l = coverage.TellsMore (g.C.Coverage.covered l.fn.told) (g.C.Coverage.covered l.told) (below (said.numbers_have l.gone) l.at)

abbrev pub decreases-apart : goal.decreases-apart
decreases-apart g l = 2 ^ 64 - l.at
