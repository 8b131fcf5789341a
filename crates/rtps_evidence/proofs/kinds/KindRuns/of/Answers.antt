use Rattle.std.proofs.Common.{◌≡◌, ◌∙◌, ◌+◌, ◌<◌, ◌≤◌, ◌&&◌, ℕ, Bool, ap, arith, not}
use Rattle.std.specs.Prelude.{is_some}
use Rattle.rtps_audit.specs.Placed as placed
use Rattle.rtps_coverage.specs.Stretches as stretches
use Rattle.rtps_evidence.specs.Kinds as kinds
use Rattle.rtps_evidence.specs.Missed as missed
use Rattle.rtps_evidence.specs.Outcomes as outcomes
use Rattle.rtps_evidence.specs.Received as received
use Rattle.rtps_evidence.specs.Spans as spans
use Rattle.rtps_evidence.specs.declared.outcome.Outcome.{Outcome}
use Rattle.rtps_evidence.proofs.LostLemmas.{missed_kind, outcome_first, runs_same, unanswered_kind, unsent_kind}
use Rattle.rtps_evidence.proofs.kinds.KindRuns.of.Goals as goal

pub returns : goal.returns
returns c = λ recording there at_host sets.
    let exchange = c.args.exchange.now in
    let pair = exchange.pair in
    let since = spans.since_of exchange.span in
    let times = exchange.times.now.of_datagrams in
    let all = placed.placed_in recording in
    let from = c.args.asked.now.from in
    let last = c.args.asked.now.last in
    let own = c.args.sets.now in
    let lacks : ℕ → Bool = stretches.stretches_have own.unreceived.numbers.now in
    let m : ℕ → Bool = stretches.stretches_have own.unreceived.missed.now in
    let v : ℕ → Bool = stretches.stretches_have own.unreceived.unmet.now in
    let us : ℕ → Bool = stretches.stretches_have own.unsent.items in
    let si : ℕ → Bool = stretches.stretches_have own.silent.now in
    let r : ℕ → Bool = received.is_received pair.writer pair.reader all in
    let w : ℕ → Bool = missed.is_wanting since pair.writer pair.reader all in
    let e : ℕ → Bool = missed.is_excused pair.writer pair.reader all in
    let b : ℕ → Bool = outcomes.is_brought since pair all in
    let u : ℕ → Bool = outcomes.is_unanswered times since pair all in
    let k : ℕ → Bool = λ n. is_some (received.first_claiming pair.writer pair.reader n all) in
    let lack : (n : ℕ) → from ≤ n → n ≤ last → stretches.stretches_have c.in_ok-lacking.lacking.items n ≡ (lacks n && not (there n)) =
    λ n low high. c.in_ok-lacking.ensures n low high ∙ ap (λ t. lacks n && not t) (at_host n) in
    let left : (n : ℕ) → from ≤ n → n ≤ last → stretches.stretches_have c.in_ok-others.others.items n ≡ ((lacks n && not (there n)) && not (v n)) =
    λ n low high. c.in_ok-others.ensures n low high ∙ ap (λ x. x && not (v n)) (ap (λ l. stretches.stretches_have l n) c.deref.ensures.value ∙ lack n low high) in
    let sent : (n : ℕ) → from ≤ n → n ≤ last → stretches.stretches_have c.in_ok-sent.sent.items n ≡ (((lacks n && not (there n)) && not (v n)) && not (us n)) =
    λ n low high.
    c.in_ok-sent.ensures n low high
    ∙ ap (λ x. x && not (stretches.stretches_have c.deref-3.result.now n)) (ap (λ l. stretches.stretches_have l n) c.deref-2.ensures.value ∙ left n low high)
    ∙ ap (λ l. ((lacks n && not (there n)) && not (v n)) && not (stretches.stretches_have l n)) c.deref-3.ensures.value in
    let up : (n : ℕ) → n < last + 1 → n ≤ last = λ n high. omega (arith, high) in
    record {
      missed = runs_same _ (kinds.has_outcome Outcome.Missed there times since pair all) from (last + 1) c.in_ok-missed.missed.items
          (λ n low high.
          ap (λ x. x && m n) (ap (λ l. stretches.stretches_have l n) c.deref-4.ensures.value ∙ lack n low (up n high))
          ∙ missed_kind (r n) (there n) (w n) (e n) (b n) (u n) (k n) (lacks n) (m n) (sets.lacking n low (up n high)) (sets.missed n low (up n high))
          ∙ outcome_first Outcome.Missed there times since pair all n)
          c.in_ok-missed.ensures;
      unsent = runs_same _ (kinds.has_outcome Outcome.Unsent there times since pair all) from (last + 1) c.in_ok-unsent.unsent.items
          (λ n low high.
          ap (λ x. x && stretches.stretches_have c.deref-6.result.now n) (ap (λ l. stretches.stretches_have l n) c.deref-5.ensures.value ∙ left n low (up n high))
          ∙ ap (λ l. ((lacks n && not (there n)) && not (v n)) && stretches.stretches_have l n) c.deref-6.ensures.value
          ∙ unsent_kind (r n) (there n) (w n) (e n) (b n) (u n) (k n) (lacks n) (v n) (us n) (sets.lacking n low (up n high)) (sets.unmet n low (up n high)) (sets.unsent n low (up n high))
          ∙ outcome_first Outcome.Unsent there times since pair all n)
          c.in_ok-unsent.ensures;
      unanswered = runs_same _ (kinds.has_outcome Outcome.Unanswered there times since pair all) from (last + 1) c.in_ok-unanswered.unanswered.items
          (λ n low high.
          ap (λ x. x && si n) (ap (λ l. stretches.stretches_have l n) c.deref-7.ensures.value ∙ sent n low (up n high))
          ∙ unanswered_kind (r n) (there n) (w n) (e n) (b n) (u n) (k n) (lacks n) (v n) (us n) (si n) (sets.lacking n low (up n high)) (sets.unmet n low (up n high)) (sets.unsent n low (up n high)) (sets.silent n low (up n high))
          ∙ outcome_first Outcome.Unanswered there times since pair all n)
          c.in_ok-unanswered.ensures;
      not_arrived = runs_same _ (kinds.is_lacking exchange.is_held there pair all) from (last + 1) c.in_ok-not_arrived.not_arrived.items
          (λ n low high.
          ap (λ x. exchange.is_held && x)
          (ap (λ l. stretches.stretches_have l n) c.deref-8.ensures.value ∙ lack n low (up n high) ∙ ap (λ x. x && not (there n)) (sets.lacking n low (up n high))))
          c.in_ok-not_arrived.ensures;
    }
