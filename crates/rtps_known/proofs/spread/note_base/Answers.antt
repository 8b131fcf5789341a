use Rattle.std.proofs.Common.{◌≡◌, ◌∙◌, ℕ, IsSome, Some, None, ap, arith, cond, max, nat_lt, refl, subst, sym, unwrap_or}
use Rattle.std.specs.BTreeMap.{BTreeMap, get, is_at}
use Rattle.std.specs.Option.{option_copied_mut}
use Rattle.rtps_ids.specs.declared.identity.GuidPrefix.{GuidPrefix}
use Rattle.rtps_known.specs.Bulletins as bulletins
use Rattle.rtps_known.proofs.BulletinLemmas.{base_more, none_less}
use Rattle.rtps_known.proofs.spread.note_base.Goals as goal

pub returns-in-Some : goal.returns-in-Some
returns-in-Some c = λ prefix n.
    let old = get bulletins.prefix_cmp c.args.bases.now in
    let was = c.in-Some.kept.now in
    let there : old c.args.source ≡ Some was = sym c.get_mut.ensures.value ∙ ap option_copied_mut c.in-Some.is in
    let w = c.max.result in
    let greatest : c.max.result ≡ max was c.args.base = grind (arith, c.max.ensures) in
    let updates = (c.get_mut.follows.holds w).3 (subst IsSome (sym there) refl) in
    ap (λ o. nat_lt n (unwrap_or o 0)) (updates.0 prefix)
    ∙ base_more old (λ p. cond (is_at (bulletins.prefix_cmp c.args.source) p) (Some w) (old p)) c.args.source c.args.base w (greatest ∙ ap (λ o. max (unwrap_or o 0) c.args.base) (sym there)) (λ p. refl) prefix n

pub returns : goal.returns
returns c = λ prefix n.
    let old = get bulletins.prefix_cmp c.args.bases.now in
    let none : old c.args.source ≡ None = sym c.get_mut.ensures.value ∙ ap option_copied_mut c.in_default.is in
    base_more old (get bulletins.prefix_cmp c.insert.new.self) c.args.source c.args.base c.args.base (none_less c.args.base ∙ ap (λ o. max (unwrap_or o 0) c.args.base) (sym none))
    (λ p. c.in_ok-insert.ensures.updates.0 p ∙ ap (λ (bases : BTreeMap GuidPrefix ℕ). cond (is_at (bulletins.prefix_cmp c.args.source) p) (Some c.args.base) (get bulletins.prefix_cmp bases p)) c.get_mut.follows.holds-at-none) prefix n
