use Rattle.std.proofs.Common.{◌∙◌, ◌++◌, ◌∷◌, [], ap, map, subst, sym, take}
use Rattle.std.specs.List.{All}
use Rattle.std.proofs.lemmas.List.{map-append, take_more}
use Rattle.std.proofs.lemmas.List.Elements.{All-push}
use Rattle.rtps_discovery.specs.declared.matching.Pair.{Pair}
use Rattle.rtps_audit.specs.Account as account_spec
use Rattle.rtps_audit.specs.declared.account.Account.{Account}
use Rattle.rtps_audit.proofs.accounts.Accounts.new.Goals as goal

pub loop-pair-preserved : goal.loop-pair-preserved
loop-pair-preserved g c =
    let pairs = c.args.pairs.now in
    let k = c.loop-pair.pair-index in
    let old = c.loop-pair.accounts.items in
    let account = c.in_ok-new.field-0 in
    let pair_of = λ (a : Account _). a.pair in
    let stands = account_spec.Stands g.C.Coverage.covered c.args.from c.args.writer [] [] in
    record {
      pairs =
          ap (map pair_of) c.in_ok-push.ensures.items ∙ map-append pair_of old (account ∷ []) ∙ ap (λ l. l ++ account.pair ∷ []) c.loop-pair.invariant.pairs
          ∙ ap (λ (p : Pair). take k pairs ++ p ∷ []) c.in_ok-new.ensures.pair ∙ sym (take_more pairs k _ c.loop-pair-test.true);
      stand = subst (All stands) (sym c.in_ok-push.ensures.items) (All-push stands old account c.loop-pair.invariant.stand (c.in_ok-new.ensures.stands c.args.writer));
    }
