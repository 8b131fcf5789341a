use Rattle.std.proofs.Common.{◌∙◌, ◌||◌, ap, sym}
use Rattle.std.specs.List.{list_any}
use Rattle.std.specs.Map.Iter.{deref_pair}
use Rattle.std.proofs.lemmas.Map.Iter.{rest_all, rest_more}
use Rattle.rtps_coverage.specs.Stretches as stretches
use Rattle.rtps_known.specs.Bulletins as bulletins
use Rattle.rtps_known.proofs.BoolLemmas.{or_join, or_none}
use Rattle.rtps_known.proofs.bulletin.Bulletin.told_to.Goals as goal

pub loop-telling-preserved : goal.loop-telling-preserved
loop-telling-preserved c = λ n.
    let step = rest_more deref_pair c.loop-telling.telling-iterator c.next.new.self c.next.result _ c.in-Some.is c.next.ensures.steps in
    let left = list_any (bulletins.reaches c.args.prefix c.args.end n) c.next.new.self in
    ap (λ b. b || left) (c.in_ok-push_some.ensures n ∙ ap (λ b. stretches.stretches_have c.loop-telling.told.items n || b) (c.told_until-stretch.ensures n))
    ∙ sym (or_join (stretches.stretches_have c.loop-telling.told.items n) _ left)
    ∙ ap (λ l. stretches.stretches_have c.loop-telling.told.items n || list_any (bulletins.reaches c.args.prefix c.args.end n) l) (sym step)
    ∙ c.loop-telling.invariant n

pub returns : goal.returns
returns c = λ n.
    let ended = rest_all deref_pair c.loop-telling.telling-iterator c.next.new.self c.next.result c.in-None.is c.next.ensures.steps in
    c.in_ok-told.ensures n ∙ or_none (stretches.stretches_have c.loop-telling.told.items n)
    ∙ ap (λ l. stretches.stretches_have c.loop-telling.told.items n || list_any (bulletins.reaches c.args.prefix c.args.end n) l) (sym ended) ∙ c.loop-telling.invariant n
