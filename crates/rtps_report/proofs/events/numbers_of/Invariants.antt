use Rattle.std.proofs.Common.{◌≡◌, ◌≤◌, ◌*◌, sum_by, take}
use Rattle.rtps_report.specs.Events as events
use Rattle.rtps_report.proofs.events.numbers_of.Given as goal

-- of the rows so far, of which each has fewer than 2 ^ 64
abbrev pub invariant-loop-row : goal.invariant-loop-row
invariant-loop-row l = record {
  counted : l.numbers ≡ sum_by (λ row. events.numbers_lost l.losses.from row.evidence) (events.rows_value (take l.row-index l.rows));
  within : l.numbers ≤ l.row-index * 18446744073709551615;
}
