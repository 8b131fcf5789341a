use Rattle.std.proofs.lemmas.Bool.Decides.{nat_tests}
use Rattle.std.proofs.Common.{◌≡◌, ◌∙◌, ◌+◌, ◌<◌, ◌≤◌, ◌||◌, ◌&&◌, ℕ, Bool, List, ap, arith, not, sym, true}
use Rattle.std.proofs.lemmas.List.Folds.{list_any-append}
use Rattle.rtps_coverage.specs.Stretches as stretches
use Rattle.rtps_evidence.specs.FirstNumbers as first_numbers
use Rattle.rtps_evidence.specs.Outcomes as outcomes
use Rattle.rtps_evidence.specs.Received as received
use Rattle.rtps_coverage.specs.declared.stretch.Stretch.{Stretch}
use Rattle.rtps_evidence.proofs.FirstNumbersLemmas.{first_same}
use Rattle.rtps_evidence.proofs.outcome.Unreceived.lacking.Goals as goal

-- a number is neither among those that do not lack, nor among those that are there
neither : (lacks received there : Bool) → lacks ≡ not received → not (not lacks || there) ≡ (not received && not there)
neither lacks received there h = grind (arith, nat_tests)

pub returns : goal.returns
returns c = λ acts there at_host are.
    let exchange = c.args.exchange.now in
    let pair = exchange.pair in
    let asked = c.args.asked.now in
    let lacks : ℕ → Bool = stretches.stretches_have c.args.self.now.numbers.now in
    let received : ℕ → Bool = received.is_received pair.writer pair.reader acts in
    let numbers : List Stretch = c.extend_from_slice.new.self.items in
    let held : exchange.is_held ≡ true = c.if-not-exchange.false in
    let from : c.get-from.result ≡ asked.from = c.get-from.ensures.value in
    let has : (n : ℕ) → asked.from ≤ n → n < asked.last + 1 → stretches.stretches_have numbers n ≡ (not (lacks n) || there n) = λ n low high.
    ap (λ l. stretches.stretches_have l n) c.in_ok-extend_from_slice.ensures.items
    ∙ list_any-append (stretches.stretch_has n) c.in_ok-numbers.numbers.items exchange.there.now
    ∙ ap (λ b. b || stretches.stretches_have exchange.there.now n) (c.in_ok-numbers.ensures n (omega (arith, from, low)) high)
    ∙ ap (λ b. not (lacks n) || b) (at_host n) in
    let named = first_same (λ n. not (stretches.stretches_have numbers n)) (λ n. not (received n) && not (there n)) asked.from (asked.last + 1)
    (λ n low high. ap not (has n low high) ∙ neither (lacks n) (received n) (there n) (are n low (omega arith))) in
    c.in_ok-lacking.ensures ∙ ap first_numbers.kept named ∙ ap (λ b. first_numbers.kept (outcomes.lacking_of b there asked.from asked.last pair acts)) (sym held)
