use Rattle.std.proofs.Common.{◌++◌, ◌∷◌, [], ◌∙◌, append_assoc, ap, false, map, sym, true}
use Rattle.std.proofs.lemmas.List.{map_push}
use Rattle.rtps_report.specs.BestEfforts as best_efforts
use Rattle.rtps_report.proofs.BestEffortLemmas.{added_behind, last_within}
use Rattle.rtps_report.proofs.best_effort.add_counted.Goals as goal

pub with_counted-requires-then-eq : goal.with_counted-requires-then-eq
with_counted-requires-then-eq c = last_within c.args.sums.now.items c.pop.new.self.items c.in-Some.last c.in-Some.ensures.items c.requires

pub returns-then-eq-clause-added : goal.returns-then-eq-clause-added
returns-then-eq-clause-added c =
    let front = c.pop.new.self.items in
    let one = best_efforts.counted_value c.args.one.now in
    ap (map best_efforts.best_effort_value) c.in_ok-push-2.ensures.items ∙ map_push best_efforts.best_effort_value front c.with_counted-then-eq.result
    ∙ ap (λ (sum : best_efforts.BestEffortValue). map best_efforts.best_effort_value front ++ sum ∷ []) c.with_counted-then-eq.ensures.sum
    ∙ sym (added_behind c.args.sums.now.items front c.in-Some.last one true c.in-Some.ensures.items (sym c.if-eq.true ∙ c.eq.ensures))

pub returns-clause-added : goal.returns-clause-added
returns-clause-added c =
    let front = c.pop.new.self.items in
    let last = c.in-Some.last in
    let one = best_efforts.counted_value c.args.one.now in
    ap (map best_efforts.best_effort_value) c.in_ok-push-4.ensures.items ∙ map_push best_efforts.best_effort_value c.push-2.new.self.items c.with_counted-2.result
    ∙ ap (λ items. map best_efforts.best_effort_value items ++ best_efforts.best_effort_value c.with_counted-2.result ∷ []) c.in_ok-push-3.ensures.items
    ∙ ap (λ sums. sums ++ best_efforts.best_effort_value c.with_counted-2.result ∷ []) (map_push best_efforts.best_effort_value front last)
    ∙ append_assoc (map best_efforts.best_effort_value front) (best_efforts.best_effort_value last ∷ []) (best_efforts.best_effort_value c.with_counted-2.result ∷ [])
    ∙ ap (λ (sum : best_efforts.BestEffortValue). map best_efforts.best_effort_value front ++ best_efforts.best_effort_value last ∷ sum ∷ []) (c.with_counted-2.ensures.sum ∙ ap (λ sum. best_efforts.with_counted sum one) c.no_pairs-2.ensures)
    ∙ sym (added_behind c.args.sums.now.items front last one false c.in-Some.ensures.items (sym c.if-eq.false ∙ c.eq.ensures))
