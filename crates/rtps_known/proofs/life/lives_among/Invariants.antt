use Rattle.std.proofs.Common.{◌≡◌, ◌++◌}
use Rattle.rtps_known.specs.Lives as lives
use Rattle.rtps_known.proofs.life.lives_among.Given as goal

-- those found, and then those among what is left
abbrev pub invariant-loop-birth : goal.invariant-loop-birth
invariant-loop-birth l = l.lives.items ++ lives.lives_in l.birth-iterator ≡ lives.lives_in l.births.entries
