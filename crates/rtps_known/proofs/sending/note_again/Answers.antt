use Rattle.std.proofs.Common.{◌∙◌, ◌&&◌, ap, nat_lt, not, sym}
use Rattle.std.specs.BTreeMap.{is_at}
use Rattle.std.specs.List.{list_any}
use Rattle.std.proofs.lemmas.Map.Iter.{rest_all, rest_more}
use Rattle.rtps_known.specs.Bulletins as bulletins
use Rattle.rtps_known.specs.Spreads as spreads
use Rattle.rtps_known.proofs.SendingLemmas.{again_more, filled_none}
use Rattle.rtps_known.proofs.sending.note_again.Goals as goal

pub loop-prefix-preserved : goal.loop-prefix-preserved
loop-prefix-preserved c = λ prefix n.
    let step = rest_more _ c.loop-prefix.prefix-iterator c.next.new.self c.next.result _ c.in-Some.is c.next.ensures.steps in
    let hearing = c.args.hearing in
    let bases = c.args.bases.now in
    again_more bases hearing.sending hearing.place c.loop-prefix.again c.fill_if.new.again _ c.next.new.self c.is_awaited-awaited.result c.is_awaited-awaited.ensures c.fill_if.ensures prefix n
    ∙ ap (λ l. spreads.filled (not (nat_lt n (spreads.base_kept bases prefix)) && (spreads.hears_by hearing.sending prefix n && list_any (is_at (bulletins.prefix_cmp prefix)) l)) hearing.place (spreads.again_kept c.loop-prefix.again prefix n)) (sym step)
    ∙ c.loop-prefix.invariant prefix n

pub returns : goal.returns
returns c = λ prefix n.
    let ended = rest_all _ c.loop-prefix.prefix-iterator c.next.new.self c.next.result c.in-None.is c.next.ensures.steps in
    let hearing = c.args.hearing in
    let bases = c.args.bases.now in
    filled_none hearing.place (spreads.again_kept c.loop-prefix.again prefix n) (not (nat_lt n (spreads.base_kept bases prefix))) (spreads.hears_by hearing.sending prefix n)
    ∙ ap (λ l. spreads.filled (not (nat_lt n (spreads.base_kept bases prefix)) && (spreads.hears_by hearing.sending prefix n && list_any (is_at (bulletins.prefix_cmp prefix)) l)) hearing.place (spreads.again_kept c.loop-prefix.again prefix n)) (sym ended)
    ∙ c.loop-prefix.invariant prefix n
