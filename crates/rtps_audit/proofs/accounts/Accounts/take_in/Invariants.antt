use Rattle.std.proofs.Common.{ℕ, ◌≡◌, ◌≤◌, ◌<◌, [], List, get_or, length, take}
use Rattle.std.specs.List.{All}
use Rattle.std.specs.List.Sorted.{IsNonDecreasingBy}
use Rattle.rtps_ids.specs.declared.identity.Guid.{Guid}
use Rattle.rtps_discovery.specs.declared.matching.Pair.{Pair}
use Rattle.rtps_audit.specs.Account as account
use Rattle.rtps_audit.specs.declared.ask.Ask.{Ask}
use Rattle.rtps_audit.proofs.AccountsLemmas.{IsTakenTo}
use Rattle.rtps_audit.proofs.accounts.Accounts.take_in.Given as goal

-- the asks so far are taken in, and the acts that stand before the last of them
abbrev pub invariant-loop-ask : goal.invariant-loop-ask
invariant-loop-ask g l = record {
  counted : length l.self.accounts.items ≡ length l.fn.self.accounts.items;
  within : l.place ≤ length l.acts;
  taken : (from : ℕ) (writer : Guid) (pairs : List Pair) → All (account.IsSince writer 0) l.acts → IsNonDecreasingBy (λ at. at.datagram) l.acts → All (λ (ask : Ask). 1 ≤ ask.answer.datagram) l.asks → IsNonDecreasingBy (λ (ask : Ask). ask.answer.datagram) l.asks
      → account.AllStand g.C.Coverage.covered from writer pairs [] [] l.fn.self → IsTakenTo g.C.Coverage.covered from writer pairs l.acts (take l.ask-index l.asks) l.place (λ since. (k : ℕ) (d : Ask) → l.ask-index ≤ k → k < length l.asks → since ≤ (get_or l.asks k d).answer.datagram) l.self;
}
