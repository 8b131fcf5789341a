use Rattle.std.proofs.Common.{ℕ, ◌≡◌, ◌≤◌, ◌<◌, true, get_or, length}
use Rattle.rtps_receiver.specs.Values as values
use Rattle.rtps_audit.specs.Account as account
use Rattle.rtps_audit.specs.declared.account.Account.{Account}
use Rattle.rtps_audit.proofs.accounts.Accounts.tell.Given as goal

-- the accounts so far heard the act, and the others stay
abbrev pub invariant-loop-place : goal.invariant-loop-place
invariant-loop-place g l =
    let old = l.fn.self.accounts.items in
    let new = l.self.accounts.items in
    record {
      writer : l.self.writer ≡ l.fn.self.writer;
      from : l.self.from ≡ l.fn.self.from;
      set : l.self.again ≡ l.fn.self.again;
      last : l.self.last ≡ l.fn.self.last;
      counted : length new ≡ length old;
      heard : (k : ℕ) (d : Account _) → k < l.place → account.Hears g.C.Coverage.covered (values.spoken_value l.act) (get_or old k d) (get_or new k d);
      rest : (k : ℕ) (d : Account _) → l.place ≤ k → get_or new k d ≡ get_or old k d;
      again : (k : ℕ) (d : Account _) (n : ℕ) → k < l.place → account.ComesAgain g.C.Coverage.covered (values.spoken_value l.act) (get_or old k d) n → l.again ≡ true;
    }
