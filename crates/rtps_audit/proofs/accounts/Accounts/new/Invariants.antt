use Rattle.std.proofs.Common.{◌≡◌, [], map, take}
use Rattle.std.specs.List.{All}
use Rattle.rtps_audit.specs.Account as account
use Rattle.rtps_audit.proofs.accounts.Accounts.new.Given as goal

-- the accounts so far, of which nothing is known
abbrev pub invariant-loop-pair : goal.invariant-loop-pair
invariant-loop-pair g l = record {
  pairs : map (λ account. account.pair) l.accounts.items ≡ take l.pair-index l.pairs;
  stand : All (account.Stands g.C.Coverage.covered l.from l.writer [] []) l.accounts.items;
}
