use Rattle.std.proofs.Common.{◌≡◌, ◌∙◌, [], IsSome, MatchOption, None, Option, Some, ap, cond, refl, subst, sym}
use Rattle.std.specs.BTreeMap.{BTreeMap, get, is_at}
use Rattle.std.specs.Option.{option_copied_mut}
use Rattle.rtps_ids.specs.declared.identity.Guid.{Guid}
use Rattle.rtps_receiver.specs.Values as values
use Rattle.rtps_discovery.specs.GuidOrder as guid_order
use Rattle.rtps_known.specs.Spreads as spreads
use Rattle.rtps_known.specs.declared.spread.Spread.{Spread}
use Rattle.rtps_known.proofs.SpreadLemmas.{about_nobody, about_this}
use Rattle.rtps_known.proofs.matches.note_spread.Goals as goal

pub returns-in_default : goal.returns-in_default
returns-in_default c = λ acts were. about_nobody acts (record { act = values.spoken_value c.args.act.now; place = c.args.place }) c.args.spreads.now c.in_default.ensures were

pub returns-in-Some-get_mut : goal.returns-in-Some-get_mut
returns-in-Some-get_mut c = λ acts were.
    let old = c.args.spreads.now in
    let writer = c.in-Some.writer in
    let was = c.in-Some-get_mut.spread.now in
    let more = c.note.new.self in
    let there : get guid_order.guid_cmp old writer ≡ Some was = sym c.get_mut.ensures.value ∙ ap option_copied_mut c.in-Some-get_mut.is in
    let kept : MatchOption (get guid_order.guid_cmp old writer) ((other : Guid) → spreads.IsSpreadOf other [] was) (λ (spread : Spread). was ≡ spread) =
    subst (λ (o : Option Spread). MatchOption o ((other : Guid) → spreads.IsSpreadOf other [] was) (λ (spread : Spread). was ≡ spread)) (sym there) refl in
    let updates = (c.get_mut.follows.holds more).3 (subst IsSome (sym there) refl) in
    about_this acts (record { act = values.spoken_value c.args.act.now; place = c.args.place }) old (c.get_mut.follows.lender more) writer was more c.in-Some.ensures kept
    (λ other own is stood. c.in_ok-note.ensures other own is stood) (λ other. updates.0 other) were

pub returns : goal.returns
returns c = λ acts were.
    let old = c.args.spreads.now in
    let writer = c.in-Some.writer in
    let new = c.new-spread.result in
    let none : get guid_order.guid_cmp old writer ≡ None = sym c.get_mut.ensures.value ∙ ap option_copied_mut c.in_default-get_mut.is in
    let kept : MatchOption (get guid_order.guid_cmp old writer) ((other : Guid) → spreads.IsSpreadOf other [] new) (λ (spread : Spread). new ≡ spread) =
    subst (λ (o : Option Spread). MatchOption o ((other : Guid) → spreads.IsSpreadOf other [] new) (λ (spread : Spread). new ≡ spread)) (sym none) c.new-spread.ensures in
    about_this acts (record { act = values.spoken_value c.args.act.now; place = c.args.place }) old c.insert.new.self writer new c.note-2.new.self c.in-Some.ensures kept
    (λ other own is stood. c.in_ok-note-2.ensures other own is stood)
    (λ other. c.in_ok-insert.ensures.updates.0 other ∙ ap (λ (spreads : BTreeMap Guid Spread). cond (is_at (guid_order.guid_cmp writer) other) (Some c.note-2.new.self) (get guid_order.guid_cmp spreads other)) c.get_mut.follows.holds-at-none) were
