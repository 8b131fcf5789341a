use Rattle.std.proofs.Common.{◌≡◌, ◌+◌, ◌-◌, ◌<◌, ◌≤◌, ◌∙◌, ◌++◌, ℕ, List, ap, arith, drop, length, slice_index, subst, take, true, length-drop}
use Rattle.std.proofs.lemmas.List.{take_rest}
use Rattle.rtps_page.specs.SafeText as safe_text
use Rattle.rtps_page.proofs.SafeLemmas.{run_from}
use Rattle.rtps_page.proofs.safe_text.plain_end.Goals as goal

pub returns-in-Some-clause-plain : goal.returns-in-Some-clause-plain
returns-in-Some-clause-plain c = λ escape.
    let text = c.args.text.now in
    let start = c.args.start in
    let place = c.in-Some.place in
    let high : place < length (drop start text) = subst (λ (l : List ℕ). place < length l) (take_rest text start) c.in-Some.ensures.0.high in
    run_from escape text start place (λ k low below. subst (λ (l : List ℕ). safe_text.is_markup (slice_index l k) ≡ true → ⊥) (take_rest text start) (c.in-Some.ensures.0.before k low below))
    (omega (arith, high, length-drop start text))

pub returns-in-None-clause-plain : goal.returns-in-None-clause-plain
returns-in-None-clause-plain c = λ escape.
    let text = c.args.text.now in
    let start = c.args.start in
    let end : start + (length text - start) ≡ length text = omega arith in
    let none : (k : ℕ) → 0 ≤ k → k < length (drop start text) → safe_text.is_markup (slice_index (drop start text) k) ≡ true → ⊥ =
    subst (λ (l : List ℕ). (k : ℕ) → 0 ≤ k → k < length l → safe_text.is_markup (slice_index l k) ≡ true → ⊥) (take_rest text start) c.in-None.ensures in
    run_from escape text start (length text - start) (λ k low below. none k low (omega (arith, below, length-drop start text))) (omega arith)
    ∙ ap (λ n. take (n - start) (drop start text) ++ safe_text.safe_text escape (drop n text)) end
