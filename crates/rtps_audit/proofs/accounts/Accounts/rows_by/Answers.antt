use Rattle.std.proofs.Common.{◌∙◌, ◌++◌, ◌∷◌, [], ap, arith, length, map, subst, sym, take}
use Rattle.std.specs.List.{All}
use Rattle.std.proofs.lemmas.List.{length-map, map-append, take_all, take_more}
use Rattle.std.proofs.lemmas.List.Elements.{All-push}
use Rattle.rtps_audit.specs.Account as account_spec
use Rattle.rtps_audit.specs.Report as report
use Rattle.rtps_audit.specs.declared.account.Account.{Account}
use Rattle.rtps_audit.specs.declared.report.Row.{Row}
use Rattle.rtps_audit.proofs.AccountsLemmas.{all_known}
use Rattle.rtps_audit.proofs.accounts.Accounts.rows_by.Goals as goal

pub loop-account-preserved : goal.loop-account-preserved
loop-account-preserved g c =
    let accounts = c.deref-account-items.result.now in
    let k = c.loop-account.account-index in
    let account = c.account-item.result in
    let lt = c.loop-account-test.true in
    let rows = c.loop-account.rows.items in
    let row : Row = record { pair = account.pair; verdict = c.verdict_on.result } in
    let pair_of = λ (a : Account _). a.pair in
    let next = take_more accounts k account lt ∙ ap (λ (a : Account _). take k accounts ++ a ∷ []) (sym c.account-item.is) in
    record {
      pairs =
          ap (map (λ (r : Row). r.pair)) c.in_ok-push.ensures.items ∙ map-append (λ (r : Row). r.pair) rows (row ∷ []) ∙ ap (λ l. l ++ account.pair ∷ []) c.loop-account.invariant.pairs
          ∙ sym (map-append pair_of (take k accounts) (account ∷ [])) ∙ ap (map pair_of) (sym next);
      judged = λ from recording positive known.
          let is_known = λ (a : Account _). account_spec.IsAllKnown from recording a.pair c.args.conflicts.now c.args.self.now.last a.claims in
          let there = subst (All is_known) (sym c.deref-account-items.ensures.value) known in
          let is = subst is_known (sym c.account-item.is) (there k account lt) in
          subst (All (report.IsJudgedFrom from recording)) (sym c.in_ok-push.ensures.items) (All-push (report.IsJudgedFrom from recording) rows row (c.loop-account.invariant.judged from recording positive known) (c.verdict_on.ensures from recording positive is));
    }

pub returns-clause-counted : goal.returns-clause-counted
returns-clause-counted g c =
    let all = take_all c.loop-account.account-index c.deref-account-items.result.now (omega (arith, c.loop-account-test.false)) ∙ c.deref-account-items.ensures.value in
    sym (length-map c.loop-account.rows.items (λ (r : Row). r.pair)) ∙ ap length c.loop-account.invariant.pairs ∙ length-map _ (λ (a : Account _). a.pair) ∙ ap length all

pub returns-clause-rows : goal.returns-clause-rows
returns-clause-rows g c = λ from writer pairs asks recording placed positive said known conflicts.
    let self = c.args.self.now in
    let all = take_all c.loop-account.account-index c.deref-account-items.result.now (omega (arith, c.loop-account-test.false)) ∙ c.deref-account-items.ensures.value in
    record {
      pairs_are = c.loop-account.invariant.pairs ∙ ap (map (λ (a : Account _). a.pair)) all ∙ known.pairs_are;
      judged = c.loop-account.invariant.judged from recording positive (all_known g.C.Coverage.covered from writer recording pairs placed asks self c.args.conflicts.now conflicts said known);
    }
