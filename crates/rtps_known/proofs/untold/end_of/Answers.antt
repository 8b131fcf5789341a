use Rattle.std.proofs.Common.{◌≡◌, ◌∙◌, None, Some, ap, inl, inr, sym}
use Rattle.std.specs.BTreeMap.{get}
use Rattle.std.specs.Option.{option_copied}
use Rattle.rtps_known.specs.Bulletins as bulletins
use Rattle.rtps_known.proofs.UntoldLemmas.{end_is}
use Rattle.rtps_known.proofs.untold.end_of.Goals as goal

pub returns-in_default : goal.returns-in_default
returns-in_default c =
    let none : get bulletins.prefix_cmp c.args.visits.now c.args.naming.source ≡ None = sym c.get.ensures.value ∙ ap option_copied c.in_default.is in
    inl (inl none)

pub returns-in_default-get : goal.returns-in_default-get
returns-in_default-get c =
    let none : get bulletins.prefix_cmp c.args.visits.now c.args.naming.dest ≡ None = sym c.get-2.ensures.value ∙ ap option_copied c.in_default-get.is in
    inl (inr none)

pub returns : goal.returns
returns c =
    let is_one : get bulletins.prefix_cmp c.args.visits.now c.args.naming.source ≡ Some c.in-Some.one.now = sym c.get.ensures.value ∙ ap option_copied c.in-Some.is in
    let is_other : get bulletins.prefix_cmp c.args.visits.now c.args.naming.dest ≡ Some c.in-Some-get.other.now = sym c.get-2.ensures.value ∙ ap option_copied c.in-Some-get.is in
    end_is c.args.visits.now c.args.naming c.in-Some.one.now c.in-Some-get.other.now c.end_between.result is_one is_other c.end_between.ensures
