use Rattle.std.proofs.Common.{◌≡◌, ◌∙◌, ◌+◌, ◌-◌, ◌<◌, ◌≤◌, ◌++◌, ap, arith, get_or, length, map, pos, subst, sym, take}
use Rattle.std.specs.List.{All, slice_range}
use Rattle.std.proofs.Math.Seq.{take-add}
use Rattle.std.proofs.lemmas.List.{get_or_default, map-append, take_all, take_more}
use Rattle.std.proofs.lemmas.List.Elements.{All-nil, All-push, All-weaker}
use Rattle.rtps_audit.specs.Account as account
use Rattle.rtps_audit.specs.Placed as placed
use Rattle.rtps_audit.specs.declared.ask.Ask.{Ask}
use Rattle.rtps_audit.proofs.AccountsLemmas.{behind_on, early_on, first_early, slice_since}
use Rattle.rtps_audit.proofs.PlacedLemmas.{all_between}
use Rattle.rtps_audit.proofs.accounts.Accounts.take_in.Goals as goal

pub loop-ask-init : goal.loop-ask-init
loop-ask-init g c = record {
  counted = Rattle.std.proofs.Common.refl;
  within = omega arith;
  taken = λ from writer pairs of rising counted sorted first. record {
    since = 0;
    bounds = λ k d low lt. omega arith;
    before = λ k d low high. absurd (omega arith);
    behind = λ k d low high. omega arith;
    asked = All-nil _;
    stand = first;
  };
}

pub loop-ask-preserved : goal.loop-ask-preserved
loop-ask-preserved g c =
    let acts = c.args.acts.now in
    let asks = c.args.asks.now in
    let place = c.loop-ask.place in
    let end = c.end_before-end.result in
    let found = c.end_before-end.ensures in
    let k = c.loop-ask.ask-index in
    let none : Ask = record { place = 0; answer = record { datagram = 0; at = 0; base = pos 0 } } in
    let ask = get_or asks k none in
    let lt = c.loop-ask-test.true in
    let covered = g.C.Coverage.covered in
    record {
      counted = c.note.ensures.counted ∙ c.in_ok-hear_all.ensures.counted ∙ c.loop-ask.invariant.counted;
      within = found.within;
      taken = λ from writer pairs of rising counted sorted first.
          let old = c.loop-ask.invariant.taken from writer pairs of rising counted sorted first in
          let le = old.bounds k none (omega arith) lt in
          let whole : place + (end - place) ≡ end = omega (arith, found.onward) in
          let joined : take place acts ++ slice_range acts place end ≡ take end acts = sym (take-add place (end - place) acts) ∙ ap (λ n. take n acts) whole in
          let slice = all_between (account.IsSince writer old.since) acts place end (slice_since writer acts place end old.since found.within of old.behind) in
          let heard = c.in_ok-hear_all.ensures.stand from old.since writer pairs (map placed.placed_value (take place acts)) (take k asks) slice old.asked old.stand in
          let now = sym (map-append placed.placed_value (take place acts) (slice_range acts place end)) ∙ ap (map placed.placed_value) joined in
          let before = early_on acts place end old.since ask.answer.datagram le old.before found.before in
          let noted = c.note.ensures.stand from writer pairs (map placed.placed_value (take end acts)) (take k asks) (counted k none lt) (first_early acts end ask.answer.datagram found.within before)
          (subst (λ l. account.AllStand covered from writer pairs l (take k asks) c.hear_all.new.self) now heard) in
          record {
            since = ask.answer.datagram;
            bounds = λ later d low within. subst (λ (a : Ask). a.answer.datagram ≤ (get_or asks later d).answer.datagram) (get_or_default asks k d none lt) (sorted k later d (omega arith) within);
            before = before;
            behind = behind_on acts end ask.answer.datagram rising found.end;
            asked = subst (All (λ (a : Ask). a.answer.datagram ≤ ask.answer.datagram)) (sym (take_more asks k none lt))
                (All-push (λ (a : Ask). a.answer.datagram ≤ ask.answer.datagram) (take k asks) ask (All-weaker (λ (a : Ask). a.answer.datagram ≤ old.since) (λ (a : Ask). a.answer.datagram ≤ ask.answer.datagram) (λ a is. omega arith) (take k asks) old.asked) (omega arith));
            stand = subst (λ l. account.AllStand covered from writer pairs (map placed.placed_value (take end acts)) l c.note.new.self) (sym (take_more asks k none lt)) noted;
          };
    }

pub returns-clause-stand : goal.returns-clause-stand
returns-clause-stand g c = λ from writer pairs of rising counted sorted first.
    let covered = g.C.Coverage.covered in
    let acts = c.args.acts.now in
    let place = c.loop-ask.place in
    let end = length acts in
    let old = c.loop-ask.invariant.taken from writer pairs of rising counted sorted first in
    let all = take_all c.loop-ask.ask-index c.args.asks.now (omega (arith, c.loop-ask-test.false)) in
    let whole : place + (end - place) ≡ end = omega (arith, c.loop-ask.invariant.within) in
    let joined : take place acts ++ slice_range acts place end ≡ acts = sym (take-add place (end - place) acts) ∙ ap (λ n. take n acts) whole ∙ take_all end acts (omega arith) in
    let slice = all_between (account.IsSince writer old.since) acts place end (slice_since writer acts place end old.since (omega arith) of old.behind) in
    let heard = c.in_ok-hear_all-2.ensures.stand from old.since writer pairs (map placed.placed_value (take place acts)) (take c.loop-ask.ask-index c.args.asks.now) slice old.asked old.stand in
    let now = sym (map-append placed.placed_value (take place acts) (slice_range acts place end)) ∙ ap (map placed.placed_value) joined in
    subst (λ l. account.AllStand covered from writer pairs (map placed.placed_value acts) l c.hear_all-2.new.self) all (subst (λ l. account.AllStand covered from writer pairs l (take c.loop-ask.ask-index c.args.asks.now) c.hear_all-2.new.self) now heard)
