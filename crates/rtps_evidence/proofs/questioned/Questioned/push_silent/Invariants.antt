use Rattle.std.proofs.Common.{◌≤◌, ◌-◌, max}
use Rattle.rtps_coverage.specs.Stretches as stretches
use Rattle.rtps_evidence.specs.Silences as silences
use Rattle.rtps_evidence.proofs.questioned.Questioned.push_silent.Given as goal

-- the numbers below that place are looked at
abbrev pub invariant-pieces : goal.invariant-pieces
invariant-pieces l = record {
  onward : l.numbers.start ≤ l.at;
  within : l.at ≤ max l.numbers.start l.numbers.end;
  hushed : silences.AreHushed l.self l.moment l.numbers.start l.at (stretches.stretches_have l.fn.silent.items) (stretches.stretches_have l.silent.items);
}

abbrev pub decreases-pieces : goal.decreases-pieces
decreases-pieces l = l.numbers.end - l.at
