use Rattle.std.proofs.Common.{◌≡◌, ◌∙◌, ℕ, [], List, MatchOption, None, Option, Some, ap, refl, subst, sym}
use Rattle.std.specs.BTreeMap.{get}
use Rattle.std.specs.Option.{option_copied}
use Rattle.rtps_ids.specs.declared.identity.GuidPrefix.{GuidPrefix}
use Rattle.rtps_discovery.specs.GuidOrder as guid_order
use Rattle.rtps_known.specs.Bulletins as bulletins
use Rattle.rtps_known.specs.Lacking as lacking_spec
use Rattle.rtps_known.specs.Recorded as recorded
use Rattle.rtps_known.specs.Tellings as tellings
use Rattle.rtps_known.specs.declared.bulletin.Bulletin.{Bulletin}
use Rattle.rtps_known.specs.declared.lacking.Lacking.{Lacking}
use Rattle.rtps_known.proofs.LackingLemmas.{lacking_nothing}
use Rattle.rtps_known.proofs.known.Known.lacking_of.Goals as goal

-- what is lacking of no acts
of_none : (acts : List tellings.TimedAct) (prefix : GuidPrefix) (end : ℕ) (lacking : Lacking) → acts ≡ [] → lacking.endpoints.items ≡ [] → lacking.unnamed ≡ 0 → lacking_spec.IsLackingOf acts prefix end lacking
of_none acts prefix end lacking none empty zero_is = let P : List tellings.TimedAct → Type 0 = λ l. lacking_spec.IsLackingOf l prefix end lacking in subst P (sym none) (lacking_nothing prefix end lacking empty zero_is)

pub returns-in_default-clause-lacking : goal.returns-in_default-clause-lacking
returns-in_default-clause-lacking c = λ acts known.
    let writer = c.args.writer in
    let none : get guid_order.guid_cmp c.args.self.now.bulletins writer ≡ None = sym c.get.ensures.value ∙ ap option_copied c.in_default.is in
    let M : Option Bulletin → Type 0 = λ kept. MatchOption kept (recorded.about writer acts ≡ []) (bulletins.IsBulletinOf (recorded.about writer acts)) in
    of_none (recorded.about writer acts) c.args.prefix c.args.end (record { endpoints = c.new.result; unnamed = 0 }) (subst M none (known.bulletins writer)) c.new.ensures.items refl

pub returns-clause-lacking : goal.returns-clause-lacking
returns-clause-lacking c = λ acts known.
    let writer = c.args.writer in
    let some : get guid_order.guid_cmp c.args.self.now.bulletins writer ≡ Some c.in-Some.bulletin.now = sym c.get.ensures.value ∙ ap option_copied c.in-Some.is in
    let M : Option Bulletin → Type 0 = λ kept. MatchOption kept (recorded.about writer acts ≡ []) (bulletins.IsBulletinOf (recorded.about writer acts)) in
    c.in_ok-lacking.ensures.lacking (recorded.about writer acts) (subst M some (known.bulletins writer))

pub returns-clause-bounded : goal.returns-clause-bounded
returns-clause-bounded c = c.in_ok-lacking.ensures.bounded
