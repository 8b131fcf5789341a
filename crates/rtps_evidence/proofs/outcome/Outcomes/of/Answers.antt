use Rattle.std.proofs.Common.{◌≡◌, ◌∙◌, ◌+◌, ◌-◌, ◌<◌, ◌≤◌, ◌&&◌, ◌||◌, ℕ, Bool, List, [], ◌∷◌, ap, arith, false, map, nat_le, nat_lt, not, refl, true}
use Rattle.std.specs.Prelude.{is_some}
use Rattle.std.proofs.lemmas.Bool.Decides.{nat_tests}
use Rattle.rtps_audit.specs.Delivery as delivery
use Rattle.rtps_audit.specs.Placed as placed
use Rattle.rtps_receiver.specs.Said as said
use Rattle.rtps_audit.specs.declared.answer.Answer.{Answer}
use Rattle.rtps_coverage.specs.Counts as counts
use Rattle.rtps_coverage.specs.Stretches as stretches
use Rattle.rtps_evidence.specs.Locations as locations
use Rattle.rtps_evidence.specs.Missed as missed
use Rattle.rtps_evidence.specs.Outcomes as outcomes
use Rattle.rtps_evidence.specs.Received as received
use Rattle.rtps_evidence.specs.Spans as spans
use Rattle.rtps_coverage.specs.declared.stretch.Stretch.{Stretch}
use Rattle.rtps_evidence.proofs.AnswerLemmas.{bases_same}
use Rattle.rtps_evidence.proofs.OutcomeCounts.{claimed_below, missed_put, outcomes_counted, unanswered_put, unmet_put, unsent_put, with_arrived, with_likely, with_missed, with_unanswered, with_unmet, with_unsent}
use Rattle.rtps_evidence.proofs.outcome.Outcomes.of.Goals as goal

or_no : (b : Bool) → (b || false) ≡ b
or_no b = grind (arith, nat_tests)

not_not : (b : Bool) → not (not b) ≡ b
not_not b = grind (arith, nat_tests)

pub returns : goal.returns
returns c = λ recording there is at_host sets.
    let exchange = c.args.exchange.now in
    let pair = exchange.pair in
    let since = spans.since_of exchange.span in
    let times = exchange.times.now.of_datagrams in
    let all = placed.placed_in recording in
    let from = c.args.asked.now.from in
    let last = c.args.asked.now.last in
    let r : ℕ → Bool = received.is_received pair.writer pair.reader all in
    let w : ℕ → Bool = missed.is_wanting since pair.writer pair.reader all in
    let e : ℕ → Bool = missed.is_excused pair.writer pair.reader all in
    let b : ℕ → Bool = outcomes.is_brought since pair all in
    let u : ℕ → Bool = outcomes.is_unanswered times since pair all in
    let k : ℕ → Bool = λ n. is_some (received.first_claiming pair.writer pair.reader n all) in
    let begins : c.get-from.result ≡ from = c.get-from.ensures.value in
    let base : c.greatest_base.result ≡ locations.greatest_base pair.writer pair.reader all =
    c.greatest_base.ensures.value ∙ ap (λ (l : List Answer). delivery.greatest (map (λ (answer : Answer). said.natural answer.base) l)) is.answers ∙ bases_same pair all in
    let claimed : List Stretch = record { lo = 0; hi = c.greatest_base.result } ∷ [] in
    let one : ℕ → Bool = λ n. stretches.stretches_have c.in_ok-numbers.numbers.items n || false in
    let two : ℕ → Bool = λ n. stretches.stretches_have c.count_with.new.numbers.items n || stretches.stretches_have exchange.there.now n in
    let three : ℕ → Bool = λ n. stretches.stretches_have c.count_with-2.new.numbers.items n || stretches.stretches_have c.args.sets.now.unreceived.missed.now n in
    let kept : ℕ → Bool = λ n. stretches.stretches_have c.count_with-3.new.numbers.items n || stretches.stretches_have c.args.sets.now.unreceived.unmet.now n in
    let four : ℕ → Bool = λ n. stretches.stretches_have c.count_with-4.new.numbers.items n || stretches.stretches_have c.deref.result.now n in
    let five : ℕ → Bool = λ n. stretches.stretches_have c.count_with-5.new.numbers.items n || stretches.stretches_have c.args.sets.now.silent.now n in
    let six : ℕ → Bool = λ n. stretches.stretches_have c.count_with-6.new.numbers.items n || stretches.stretches_have claimed n in
    let first : (n : ℕ) → from ≤ n → n < last + 1 → one n ≡ r n =
    λ n low high. or_no (stretches.stretches_have c.in_ok-numbers.numbers.items n) ∙ c.in_ok-numbers.ensures n (omega (arith, begins, low)) high ∙ ap not (sets.lacking n low (omega arith)) ∙ not_not (r n) in
    let second : (n : ℕ) → from ≤ n → n < last + 1 → two n ≡ with_arrived (r n) (there n) =
    λ n low high. ap (λ x. x || stretches.stretches_have exchange.there.now n) (c.in_ok-received.ensures.numbers n ∙ first n low high) ∙ ap (λ x. r n || x) (at_host n) in
    let third : (n : ℕ) → from ≤ n → n < last + 1 → three n ≡ with_missed (r n) (there n) (w n) (e n) =
    λ n low high. missed_put (stretches.stretches_have c.count_with-2.new.numbers.items n) (r n) (there n) (w n) (e n) (stretches.stretches_have c.args.sets.now.unreceived.missed.now n) (three n) (c.in_ok-arrived.ensures.numbers n ∙ second n low high) (sets.missed n low (omega arith)) refl in
    let between : (n : ℕ) → from ≤ n → n < last + 1 → kept n ≡ with_unmet (r n) (there n) (w n) =
    λ n low high. unmet_put (stretches.stretches_have c.count_with-3.new.numbers.items n) (r n) (there n) (w n) (e n) (stretches.stretches_have c.args.sets.now.unreceived.unmet.now n) (kept n) (c.in_ok-missed.ensures.numbers n ∙ third n low high) (sets.unmet n low (omega arith)) refl in
    let fourth : (n : ℕ) → from ≤ n → n < last + 1 → four n ≡ with_unsent (r n) (there n) (w n) (b n) =
    λ n low high. unsent_put (stretches.stretches_have c.count_with-4.new.numbers.items n) (r n) (there n) (w n) (b n) (stretches.stretches_have c.deref.result.now n) (four n) (c.in_ok-unmet.ensures.numbers n ∙ between n low high)
    (λ out. ap (λ l. stretches.stretches_have l n) c.deref.ensures.value ∙ sets.unsent n low (omega arith) out) refl in
    let fifth : (n : ℕ) → from ≤ n → n < last + 1 → five n ≡ with_unanswered (r n) (there n) (w n) (b n) (u n) =
    λ n low high. unanswered_put (stretches.stretches_have c.count_with-5.new.numbers.items n) (r n) (there n) (w n) (b n) (stretches.stretches_have c.args.sets.now.silent.now n) (u n) (five n) (c.in_ok-unsent.ensures.numbers n ∙ fourth n low high)
    (λ out is_brought. sets.silent n low (omega arith) out is_brought) refl in
    let below : (n : ℕ) → stretches.stretches_have claimed n ≡ k n =
    λ n.
    let zero : nat_le 0 n ≡ true = grind (arith, nat_tests) in
    ap (λ x. (x && nat_lt n c.greatest_base.result) || false) zero ∙ or_no (nat_lt n c.greatest_base.result) ∙ ap (nat_lt n) base ∙ claimed_below pair all n in
    let sixth : (n : ℕ) → from ≤ n → n < last + 1 → six n ≡ with_likely (r n) (there n) (w n) (b n) (u n) (k n) =
    λ n low high.
    ap (λ x. x || stretches.stretches_have claimed n) (c.in_ok-unanswered.ensures.numbers n ∙ fifth n low high) ∙ ap (λ x. with_unanswered (r n) (there n) (w n) (b n) (u n) || x) (below n) in
    let counted = outcomes_counted there from last times since pair all one two three kept four five six
    (record { of_received = first; of_arrived = second; of_missed = third; of_unmet = between; of_unsent = fourth; of_unanswered = fifth; of_likely = sixth }) in
    let arrived_more : c.saturating_sub.result ≡ c.in_ok-arrived.arrived - c.in_ok-received.received = (let is = c.saturating_sub.ensures in omega (arith, is)) in
    let missed_more : c.saturating_sub-2.result ≡ c.in_ok-missed.missed - c.in_ok-arrived.arrived = (let is = c.saturating_sub-2.ensures in omega (arith, is)) in
    let unsent_more : c.saturating_sub-3.result ≡ c.in_ok-unsent.unsent - c.in_ok-unmet.unmet = (let is = c.saturating_sub-3.ensures in omega (arith, is)) in
    let unanswered_more : c.saturating_sub-4.result ≡ c.in_ok-unanswered.unanswered - c.in_ok-unsent.unsent = (let is = c.saturating_sub-4.ensures in omega (arith, is)) in
    let likely_more : c.saturating_sub-7.result ≡ c.in_ok-likely.likely - c.in_ok-missed.missed - (c.in_ok-unanswered.unanswered - c.in_ok-unmet.unmet) =
    (let all = c.saturating_sub-5.ensures in let apart = c.saturating_sub-6.ensures in let is = c.saturating_sub-7.ensures in omega (arith, all, apart, is)) in
    let others : c.saturating_sub-8.result ≡ last + 1 - from - c.in_ok-likely.likely = (let is = c.saturating_sub-8.ensures in omega (arith, is, begins)) in
    record {
      received = c.in_ok-received.ensures.count ∙ counted.received;
      arrived = arrived_more ∙ ap (λ m. m - c.in_ok-received.received) c.in_ok-arrived.ensures.count ∙ ap (λ m. counts.count_in two from (last + 1) - m) c.in_ok-received.ensures.count ∙ counted.arrived;
      missed = missed_more ∙ ap (λ m. m - c.in_ok-arrived.arrived) c.in_ok-missed.ensures.count ∙ ap (λ m. counts.count_in three from (last + 1) - m) c.in_ok-arrived.ensures.count ∙ counted.missed;
      unsent = unsent_more ∙ ap (λ m. m - c.in_ok-unmet.unmet) c.in_ok-unsent.ensures.count ∙ ap (λ m. counts.count_in four from (last + 1) - m) c.in_ok-unmet.ensures.count ∙ counted.unsent;
      unanswered = unanswered_more ∙ ap (λ m. m - c.in_ok-unsent.unsent) c.in_ok-unanswered.ensures.count ∙ ap (λ m. counts.count_in five from (last + 1) - m) c.in_ok-unsent.ensures.count ∙ counted.unanswered;
      likely = likely_more
          ∙ ap (λ m. m - c.in_ok-missed.missed - (c.in_ok-unanswered.unanswered - c.in_ok-unmet.unmet)) c.in_ok-likely.ensures.count
          ∙ ap (λ m. counts.count_in six from (last + 1) - m - (c.in_ok-unanswered.unanswered - c.in_ok-unmet.unmet)) c.in_ok-missed.ensures.count
          ∙ ap (λ m. counts.count_in six from (last + 1) - counts.count_in three from (last + 1) - (m - c.in_ok-unmet.unmet)) c.in_ok-unanswered.ensures.count
          ∙ ap (λ m. counts.count_in six from (last + 1) - counts.count_in three from (last + 1) - (counts.count_in five from (last + 1) - m)) c.in_ok-unmet.ensures.count
          ∙ counted.likely;
      unconfirmed = others ∙ ap (λ m. last + 1 - from - m) c.in_ok-likely.ensures.count ∙ counted.unconfirmed;
    }
