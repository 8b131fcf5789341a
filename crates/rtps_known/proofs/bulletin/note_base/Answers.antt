use Rattle.std.proofs.Common.{◌≡◌, ◌∙◌, ℕ, ◌||◌, ◌&&◌, IsSome, Some, None, ap, arith, cond, max, nat_lt, refl, subst, sym, unwrap_or}
use Rattle.std.specs.BTreeMap.{BTreeMap, get, is_at}
use Rattle.std.specs.Option.{option_copied_mut}
use Rattle.rtps_ids.specs.declared.identity.GuidPrefix.{GuidPrefix}
use Rattle.rtps_receiver.specs.Speech as speech
use Rattle.rtps_known.specs.Bulletins as bulletins
use Rattle.rtps_known.specs.Tellings as tellings
use Rattle.rtps_known.proofs.BulletinLemmas.{base_more, none_less}
use Rattle.rtps_known.proofs.BoolLemmas.{and_none, or_none}
use Rattle.rtps_known.proofs.bulletin.note_base.Goals as goal

pub returns-in_default : goal.returns-in_default
returns-in_default c = λ prefix n.
    let old = nat_lt n (unwrap_or (get bulletins.prefix_cmp c.args.bases.now prefix) 0) in
    let here = speech.is_prefix c.args.act.now.source prefix in
    or_none old ∙ ap (λ b. old || b) (sym (and_none here)) ∙ ap (λ o. old || (here && tellings.holds (λ one. nat_lt n one.base) o)) c.in_default.ensures

pub returns-in-Some-get_mut : goal.returns-in-Some-get_mut
returns-in-Some-get_mut c = λ prefix n.
    let old = get bulletins.prefix_cmp c.args.bases.now in
    let source = c.args.act.now.source in
    let was = c.in-Some-get_mut.base.now in
    let base = c.in-Some.told.base in
    let there : old source ≡ Some was = sym c.get_mut.ensures.value ∙ ap option_copied_mut c.in-Some-get_mut.is in
    let w = c.max.result in
    let greatest : c.max.result ≡ max was base = grind (arith, c.max.ensures) in
    let updates = (c.get_mut.follows.holds w).3 (subst IsSome (sym there) refl) in
    ap (λ o. nat_lt n (unwrap_or o 0)) (updates.0 prefix)
    ∙ base_more old (λ p. cond (is_at (bulletins.prefix_cmp source) p) (Some w) (old p)) source base w (greatest ∙ ap (λ o. max (unwrap_or o 0) base) (sym there)) (λ p. refl) prefix n
    ∙ ap (λ o. nat_lt n (unwrap_or (old prefix) 0) || (speech.is_prefix source prefix && tellings.holds (λ one. nat_lt n one.base) o)) c.in-Some.ensures

pub returns : goal.returns
returns c = λ prefix n.
    let old = get bulletins.prefix_cmp c.args.bases.now in
    let source = c.args.act.now.source in
    let base = c.in-Some.told.base in
    let none : old source ≡ None = sym c.get_mut.ensures.value ∙ ap option_copied_mut c.in_default-get_mut.is in
    base_more old (get bulletins.prefix_cmp c.insert.new.self) source base base (none_less base ∙ ap (λ o. max (unwrap_or o 0) base) (sym none))
    (λ p. c.in_ok-insert.ensures.updates.0 p ∙ ap (λ (bases : BTreeMap GuidPrefix ℕ). cond (is_at (bulletins.prefix_cmp source) p) (Some base) (get bulletins.prefix_cmp bases p)) c.get_mut.follows.holds-at-none) prefix n
    ∙ ap (λ o. nat_lt n (unwrap_or (old prefix) 0) || (speech.is_prefix source prefix && tellings.holds (λ one. nat_lt n one.base) o)) c.in-Some.ensures
