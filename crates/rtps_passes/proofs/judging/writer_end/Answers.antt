use Rattle.std.proofs.Common.{◌≡◌, ◌∙◌, ap, arith, get_or, rules, subst}
use Rattle.std.proofs.lemmas.List.{get_or_default}
use Rattle.std.proofs.lemmas.List.Elements.{AllWithin-more}
use Rattle.rtps_discovery.specs.declared.matching.Pair.{Pair}
use Rattle.rtps_audit.proofs.Offered.{no_pair}
use Rattle.rtps_passes.proofs.judging.writer_end.Goals as goal

pub loop-place-preserved : goal.loop-place-preserved
loop-place-preserved c =
    let of_writer = λ (pair : Pair). pair.writer ≡ c.args.writer in
    let here : of_writer (get_or c.args.pairs.now c.loop-place.place no_pair) = search rules in
    AllWithin-more of_writer c.args.pairs.now c.args.start c.loop-place.place c.loop-place.invariant
    (λ d. subst of_writer (get_or_default c.args.pairs.now c.loop-place.place no_pair d (omega arith)) here)

pub returns-then-ne-clause-end : goal.returns-then-ne-clause-end
returns-then-ne-clause-end c = λ lt d same.
    let apart : (get_or c.args.pairs.now c.loop-place.place no_pair).writer ≡ c.args.writer → ⊥ = search rules in
    apart (ap (λ (pair : Pair). pair.writer) (get_or_default c.args.pairs.now c.loop-place.place no_pair d lt) ∙ same)
