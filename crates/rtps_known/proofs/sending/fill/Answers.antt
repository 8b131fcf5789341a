use Rattle.std.proofs.Common.{◌≡◌, ◌∙◌, IsSome, Option, Some, None, ap, refl, subst, sym}
use Rattle.std.specs.BTreeMap.{BTreeMap, get}
use Rattle.std.specs.Option.{option_copied_mut}
use Rattle.rtps_known.specs.Spreads as spreads
use Rattle.rtps_known.specs.declared.place.Place.{Place}
use Rattle.rtps_known.specs.declared.sending.Sending.{Sending}
use Rattle.rtps_known.proofs.SendingLemmas.{fill_none, fill_some}
use Rattle.rtps_known.proofs.sending.fill.Goals as goal

pub returns-in-Some : goal.returns-in-Some
returns-in-Some c =
    let old = get spreads.sending_cmp c.args.again.now in
    let was = c.in-Some.kept.now in
    let there : old c.args.request ≡ Some was = sym c.get_mut.ensures.value ∙ ap option_copied_mut c.in-Some.is in
    fill_some old _ c.args.request c.args.place c.unwrap_or.result was c.unwrap_or.ensures there (λ other. ((c.get_mut.follows.holds (Some c.unwrap_or.result)).3 (subst IsSome (sym there) refl)).0 other)

pub returns-in_default : goal.returns-in_default
returns-in_default c = λ other.
    let none : get spreads.sending_cmp c.args.again.now c.args.request ≡ None = sym c.get_mut.ensures.value ∙ ap option_copied_mut c.in_default.is in
    ap (λ (kept : BTreeMap Sending (Option Place)). get spreads.sending_cmp kept other) c.get_mut.follows.holds-at-none
    ∙ fill_none (get spreads.sending_cmp c.args.again.now) c.args.request c.args.place none other
