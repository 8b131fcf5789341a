use Rattle.std.proofs.Common.{◌≡◌, ◌+◌, ◌++◌, ◌∷◌, [], ◌∙◌, List, ap, map, subst, sym, take}
use Rattle.std.proofs.lemmas.List.{map-append, take_more}
use Rattle.rtps_ids.specs.declared.identity.Guid.{Guid}
use Rattle.rtps_audit.specs.Placed as placed_spec
use Rattle.rtps_audit.specs.declared.placed.Placed.{Placed}
use Rattle.rtps_fragments.specs.Hearing as hearing_spec
use Rattle.rtps_fragments.proofs.ViewLemmas.{heard_without}
use Rattle.rtps_fragments.proofs.hearing.heard_of.Goals as goal

pub returns-then-not-have_fragments : goal.returns-then-not-have_fragments
returns-then-not-have_fragments c = sym (heard_without c.args.reader [] (map placed_spec.placed_value c.args.acts.now) (sym c.have_fragments.ensures ∙ c.if-not-have_fragments.true))

pub loop-placed-preserved : goal.loop-placed-preserved
loop-placed-preserved c =
    let acts = c.args.acts.now in
    let i = c.loop-placed.placed-index in
    let here = c.placed-item.result in
    let so_far = map placed_spec.placed_value (take i acts) in
    let was = c.loop-placed.invariant in
    let heard = c.in_ok-hear.ensures.heard so_far in
    let more = subst (λ (r : Guid). hearing_spec.IsHearing r so_far c.loop-placed.hearing → hearing_spec.IsHearing r (so_far ++ placed_spec.placed_value here ∷ []) c.hear.new.self) was.own heard was in
    let next : map placed_spec.placed_value (take (i + 1) acts) ≡ so_far ++ placed_spec.placed_value here ∷ [] =
    ap (map placed_spec.placed_value) (take_more acts i here c.loop-placed-test.true ∙ ap (λ (p : Placed). take i acts ++ p ∷ []) (sym c.placed-item.is)) ∙ map-append placed_spec.placed_value (take i acts) (here ∷ []) in
    subst (λ xs. hearing_spec.IsHearing c.args.reader xs c.hear.new.self) (sym next) more
