use Rattle.std.proofs.Common.{◌≡◌, ◌∙◌, [], IsSome, MatchOption, None, Option, Some, ap, cond, refl, subst, sym}
use Rattle.std.specs.BTreeMap.{BTreeMap, get, is_at}
use Rattle.std.specs.Option.{option_copied_mut}
use Rattle.rtps_ids.specs.declared.identity.Guid.{Guid}
use Rattle.rtps_receiver.specs.Values as values
use Rattle.rtps_discovery.specs.GuidOrder as guid_order
use Rattle.rtps_known.specs.Bulletins as bulletins
use Rattle.rtps_known.specs.declared.bulletin.Bulletin.{Bulletin}
use Rattle.rtps_known.proofs.KnownLemmas.{about_none, about_one}
use Rattle.rtps_known.proofs.known.note_bulletin.Goals as goal

pub returns-in_default : goal.returns-in_default
returns-in_default c = λ acts were. about_none acts (record { act = values.spoken_value c.args.act.now; time = c.args.time }) c.args.bulletins.now c.in_default.ensures were

pub returns-in-Some-get_mut : goal.returns-in-Some-get_mut
returns-in-Some-get_mut c = λ acts were.
    let old = c.args.bulletins.now in
    let writer = c.in-Some.writer in
    let was = c.in-Some-get_mut.bulletin.now in
    let more = c.note.new.self in
    let there : get guid_order.guid_cmp old writer ≡ Some was = sym c.get_mut.ensures.value ∙ ap option_copied_mut c.in-Some-get_mut.is in
    let kept : MatchOption (get guid_order.guid_cmp old writer) (bulletins.IsBulletinOf [] was) (λ (bulletin : Bulletin). was ≡ bulletin) =
    subst (λ (o : Option Bulletin). MatchOption o (bulletins.IsBulletinOf [] was) (λ (bulletin : Bulletin). was ≡ bulletin)) (sym there) refl in
    let updates = (c.get_mut.follows.holds more).3 (subst IsSome (sym there) refl) in
    about_one acts (record { act = values.spoken_value c.args.act.now; time = c.args.time }) old (c.get_mut.follows.lender more) writer was more c.in-Some.ensures kept c.in_ok-note.ensures (λ other. updates.0 other) were

pub returns : goal.returns
returns c = λ acts were.
    let old = c.args.bulletins.now in
    let writer = c.in-Some.writer in
    let new = c.new-bulletin.result in
    let none : get guid_order.guid_cmp old writer ≡ None = sym c.get_mut.ensures.value ∙ ap option_copied_mut c.in_default-get_mut.is in
    let kept : MatchOption (get guid_order.guid_cmp old writer) (bulletins.IsBulletinOf [] new) (λ (bulletin : Bulletin). new ≡ bulletin) =
    subst (λ (o : Option Bulletin). MatchOption o (bulletins.IsBulletinOf [] new) (λ (bulletin : Bulletin). new ≡ bulletin)) (sym none) c.new-bulletin.ensures in
    about_one acts (record { act = values.spoken_value c.args.act.now; time = c.args.time }) old c.insert.new.self writer new c.note-2.new.self c.in-Some.ensures kept c.in_ok-note-2.ensures
    (λ other. c.in_ok-insert.ensures.updates.0 other ∙ ap (λ (bulletins : BTreeMap Guid Bulletin). cond (is_at (guid_order.guid_cmp writer) other) (Some c.note-2.new.self) (get guid_order.guid_cmp bulletins other)) c.get_mut.follows.holds-at-none) were
