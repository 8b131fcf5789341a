use Rattle.std.proofs.Common.{ℕ, ◌≡◌, ◌∙◌, ◌<◌, true, false, arith, get_or, inl, inr, length, set, subst, sym}
use Rattle.std.proofs.lemmas.Bool.{cases_lt}
use Rattle.std.proofs.lemmas.List.{get_or-set_other, get_or-set_same, get_or_read, length-set}
use Rattle.rtps_receiver.specs.Values as values
use Rattle.rtps_audit.specs.Account as account
use Rattle.rtps_audit.specs.declared.account.Account.{Account}
use Rattle.rtps_audit.proofs.accounts.Accounts.tell.Goals as goal
use Rattle.rtps_audit.proofs.accounts.Accounts.tell.Goals.{then-branch, else-branch}

pub loop-place-preserved : goal.loop-place-preserved
loop-place-preserved g c =
    let covered = g.C.Coverage.covered in
    let act = values.spoken_value c.args.act.now in
    let old = c.args.self.now.accounts.items in
    let mid = c.loop-place.self.accounts.items in
    let place = c.loop-place.place in
    let known = c.loop-place.invariant in
    let new = c.hear.new.self in
    let within : place < length mid = omega (arith, c.loop-place-test.true, c.len-place-end.ensures, known.counted) in
    let here = get_or_read mid place c.index_mut.result.now within c.index_mut.ensures.value in
    let same : (d : Account g.row.C.Denot) → c.index_mut.result.now ≡ get_or old place d = λ d. here d ∙ known.rest place d (omega arith) in
    let other : (k : ℕ) (d : Account g.row.C.Denot) → (k ≡ place → ⊥) → get_or (set mid place new) k d ≡ get_or mid k d = λ k d differs. get_or-set_other mid place k new d differs in
    record {
      writer = known.writer;
      from = known.from;
      set = known.set;
      last = known.last;
      counted = length-set mid place new ∙ known.counted;
      heard = λ k d lt. elim (cases_lt k place) [
        | inl before ↦ subst (account.Hears covered act (get_or old k d)) (sym (other k d (λ e. omega (arith, e)))) (known.heard k d before)
        | inr ge ↦
            let e : place ≡ k = omega arith in
            let now = subst (λ a. account.Hears covered act a new) (same d) c.in_ok-hear.ensures.heard in
            subst (λ m. account.Hears covered act (get_or old m d) (get_or (set mid place new) m d)) e (subst (account.Hears covered act (get_or old place d)) (sym (get_or-set_same mid place new d within)) now)
      ];
      rest = λ k d ge. other k d (λ e. omega (arith, e)) ∙ known.rest k d (omega arith);
      again = λ k d n lt comes. elim c.if-branch.branch [
        | then-branch w ↦ w.again-is
        | else-branch w ↦ elim (cases_lt k place) [
          | inl before ↦ w.again-is ∙ known.again k d n before comes
          | inr ge ↦
              let e : k ≡ place = omega arith in
              let here = subst (λ m. account.ComesAgain covered act (get_or old m d) n) e comes in
              let yes = c.in_ok-hear.ensures.again n (subst (λ a. account.ComesAgain covered act a n) (sym (same d)) here) in
              let no = w.if-branch.false in
              let clash : true ≡ false = sym yes ∙ no in
              absurd cc
        ]
      ];
    }

pub returns-clause-again : goal.returns-clause-again
returns-clause-again g c = λ place d n lt comes. c.loop-place.invariant.again place d n (omega (arith, lt, c.loop-place-test.false, c.loop-place.auto.place-end, c.len-place-end.ensures)) comes
