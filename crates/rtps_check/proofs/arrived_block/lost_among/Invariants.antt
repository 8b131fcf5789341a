use Rattle.std.proofs.Common.{◌≡◌, ◌*◌, ◌≤◌, map, sum_by, take}
use Rattle.rtps_report.specs.BestEfforts as best_efforts
use Rattle.rtps_check.specs.ArrivedText as arrived_text
use Rattle.rtps_check.proofs.arrived_block.lost_among.Given as goal

-- of the pairs so far, each of which has fewer than 2 ^ 64 numbers
abbrev pub invariant-loop-one : goal.invariant-loop-one
invariant-loop-one l = record {
  value : l.lost ≡ sum_by arrived_text.lost_of (map (λ one. best_efforts.held_value one.now) (take l.one-index l.pairs));
  few : l.lost ≤ l.one-index * 18446744073709551615;
}
