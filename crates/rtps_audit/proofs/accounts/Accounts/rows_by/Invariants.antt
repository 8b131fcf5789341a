use Rattle.std.proofs.Common.{ℕ, ◌≡◌, ◌≤◌, List, map, take}
use Rattle.std.specs.List.{All}
use Rattle.rtps_receiver.specs.Values as values
use Rattle.rtps_audit.specs.Account as account_spec
use Rattle.rtps_audit.specs.Report as report
use Rattle.rtps_audit.proofs.accounts.Accounts.rows_by.Given as goal

-- a row for each account so far
abbrev pub invariant-loop-account : goal.invariant-loop-account
invariant-loop-account g l = record {
  pairs : map (λ row. row.pair) l.rows.items ≡ map (λ account. account.pair) (take l.account-index l.account-items);
  judged : (from : ℕ) (recording : List (List values.ActValue)) → 1 ≤ from → All (λ account. account_spec.IsAllKnown from recording account.pair l.conflicts l.self.last account.claims) l.self.accounts.items → All (report.IsJudgedFrom from recording) l.rows.items;
}
