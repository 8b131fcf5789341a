use Rattle.std.proofs.Common.{◌≡◌, ◌++◌, None, drop, map}
use Rattle.rtps_report.specs.TwoLives as two_lives
use Rattle.rtps_report.proofs.two_lives.first_lives.Given as goal

-- those so far, and then those of the lives that are left
abbrev pub invariant-loop-life : goal.invariant-loop-life
invariant-loop-life l = map two_lives.two_lives_of (two_lives.firsts_behind None l.lives) ≡ l.found.items ++ map two_lives.two_lives_of (two_lives.firsts_behind l.before (drop l.life-index l.lives))
