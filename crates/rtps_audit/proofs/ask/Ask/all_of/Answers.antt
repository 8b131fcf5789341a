use Rattle.std.proofs.Common.{◌≡◌, ◌+◌, ◌<◌, ◌≤◌, ◌∙◌, ap, arith, length, rules, subst, sym}
use Rattle.std.specs.List.{All}
use Rattle.std.proofs.lemmas.List.{get_or_default}
use Rattle.std.proofs.lemmas.List.Elements.{All-append, All-map, All-weaker}
use Rattle.std.proofs.lemmas.List.Sorted.{All-permutation, IsNonDecreasingBy-from_sort_by_key}
use Rattle.rtps_discovery.specs.declared.matching.Pair.{Pair}
use Rattle.rtps_audit.specs.Placed as placed
use Rattle.rtps_audit.specs.declared.answer.Answer.{Answer}
use Rattle.rtps_audit.specs.declared.ask.Ask.{Ask}
use Rattle.rtps_audit.proofs.IndexSpeech.{answers_counted}
use Rattle.rtps_audit.proofs.AskLemmas.{AreFirstAsks, ask_at, asks_more, asks_sorted, no_asks}
use Rattle.rtps_audit.proofs.ask.Ask.all_of.Goals as goal

pub loop-place-init : goal.loop-place-init
loop-place-init c = record { asks = λ intake is. no_asks intake.acts c.args.pairs.now c.new-asks.result.items c.new-asks.ensures.items; within = search rules }

pub loop-place-preserved : goal.loop-place-preserved
loop-place-preserved c =
    let pairs = c.args.pairs.now in
    let place = c.loop-place.place in
    let old = c.loop-place.asks.items in
    let answers = c.answers_of.result.now in
    let within = λ (ask : Ask). ask.place < place + 1 in
    record {
      asks = λ intake is.
          let are = c.answers_of.ensures intake is in
          asks_more intake.acts pairs old c.push.new.asks.items place answers c.in_ok-push.ensures
          (λ d. are ∙ ap (λ (p : Pair). placed.answers_among p (placed.placed_in intake.acts)) (get_or_default pairs place _ d c.loop-place-test.true))
          (subst (All (λ (answer : Answer). 1 ≤ answer.datagram)) (sym are) (answers_counted _ intake.acts)) (c.loop-place.invariant.asks intake is);
      within = subst (All within) (sym c.in_ok-push.ensures)
          (All-append within old _ (All-weaker (λ (ask : Ask). ask.place < place) within (λ ask lt. omega arith) old c.loop-place.invariant.within) (All-map within (ask_at place) answers (λ k d lt. omega arith)));
    }

pub returns-clause-asks : goal.returns-clause-asks
returns-clause-asks c = λ intake is.
    let all : c.loop-place.place ≡ length c.args.pairs.now = omega (arith, c.loop-place-test.false, c.loop-place.auto.place-end) in
    asks_sorted intake.acts c.args.pairs.now _ _ c.in_ok-sort_by_key.ensures.permutation (subst (AreFirstAsks intake.acts c.args.pairs.now c.loop-place.asks.items) all (c.loop-place.invariant.asks intake is))

pub returns-clause-within : goal.returns-clause-within
returns-clause-within c =
    let all : c.loop-place.place ≡ length c.args.pairs.now = omega (arith, c.loop-place-test.false, c.loop-place.auto.place-end) in
    All-permutation (λ (ask : Ask). ask.place < length c.args.pairs.now) _ _ c.in_ok-sort_by_key.ensures.permutation (subst (λ n. All (λ (ask : Ask). ask.place < n) c.loop-place.asks.items) all c.loop-place.invariant.within)

pub returns-clause-sorted : goal.returns-clause-sorted
returns-clause-sorted c = IsNonDecreasingBy-from_sort_by_key (λ (ask : Ask). ask.answer.datagram) _ c.in_ok-sort_by_key.ensures.sorted (λ a r q k. search rules)
