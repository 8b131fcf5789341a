use Rattle.std.proofs.Common.{ℕ, ◌≡◌, ◌≤◌, ◌++◌, List, length, map, take}
use Rattle.std.specs.List.{All}
use Rattle.rtps_ids.specs.declared.identity.Guid.{Guid}
use Rattle.rtps_discovery.specs.declared.matching.Pair.{Pair}
use Rattle.rtps_audit.specs.Account as account
use Rattle.rtps_audit.specs.Placed as placed_spec
use Rattle.rtps_audit.specs.declared.ask.Ask.{Ask}
use Rattle.rtps_audit.proofs.accounts.Accounts.hear_all.Given as goal

-- the acts so far are taken in
abbrev pub invariant-loop-placed : goal.invariant-loop-placed
invariant-loop-placed g l = record {
  counted : length l.self.accounts.items ≡ length l.fn.self.accounts.items;
  stand : (from since : ℕ) (writer : Guid) (pairs : List Pair) (placed : List placed_spec.PlacedValue) (asks : List Ask) → All (account.IsSince writer since) l.acts → All (λ (ask : Ask). ask.answer.datagram ≤ since) asks
      → account.AllStand g.C.Coverage.covered from writer pairs placed asks l.fn.self → account.AllStand g.C.Coverage.covered from writer pairs (placed ++ map placed_spec.placed_value (take l.placed-index l.acts)) asks l.self;
}
