use Rattle.std.proofs.Common.{◌≡◌, ◌∙◌, ℕ, ◌||◌, Some, None, ap, arith, min, sym}
use Rattle.std.specs.BTreeMap.{BTreeMap, get, is_at}
use Rattle.std.specs.List.{list_any}
use Rattle.std.specs.Option.{option_copied_mut}
use Rattle.std.proofs.lemmas.Map.Views.{tells_apart}
use Rattle.rtps_known.specs.Bulletins as bulletins
use Rattle.rtps_known.specs.declared.telling.Telling.{Telling}
use Rattle.rtps_known.proofs.BulletinLemmas.{least_reaches}
use Rattle.rtps_known.proofs.KeyLemmas.{any_entry, any_value}
use Rattle.rtps_known.proofs.OrderLemmas.{exact_tellings, telling_cmp}
use Rattle.rtps_known.proofs.bulletin.keep_least.Goals as goal

pub returns-in-Some : goal.returns-in-Some
returns-in-Some c = λ prefix end n.
    let was = c.in-Some.kept.now in
    let w = c.min.result in
    let least : c.min.result ≡ min c.in-Some.kept.now c.args.time = grind (arith, c.min.ensures) in
    let there : get telling_cmp c.args.told.now c.args.telling ≡ Some was = sym c.get_mut.ensures.value ∙ ap option_copied_mut c.in-Some.is in
    ap (list_any (bulletins.reaches prefix end n)) (c.get_mut.follows.holds w).0
    ∙ any_value (is_at (telling_cmp c.args.telling)) (bulletins.reaches prefix end n) (bulletins.reaches prefix end n (c.args.telling, c.args.time)) c.args.told.now.entries was w there
    (λ k same. ap (λ t. bulletins.reaches prefix end n (t, w)) (sym (tells_apart exact_tellings c.args.telling k same)) ∙ least_reaches prefix end n c.args.telling was c.args.time w least
    ∙ ap (λ t. bulletins.reaches prefix end n (t, was) || bulletins.reaches prefix end n (c.args.telling, c.args.time)) (tells_apart exact_tellings c.args.telling k same))

pub returns : goal.returns
returns c = λ prefix end n.
    let kept = c.get_mut.follows.lender-at-none in
    let none : get telling_cmp c.args.told.now c.args.telling ≡ None = sym c.get_mut.ensures.value ∙ ap option_copied_mut c.in_default.is in
    let none_kept : get telling_cmp kept c.args.telling ≡ None = ap (λ (m : BTreeMap Telling ℕ). get telling_cmp m c.args.telling) c.get_mut.follows.holds-at-none ∙ none in
    ap (list_any (bulletins.reaches prefix end n)) c.in_ok-insert.ensures.entries
    ∙ any_entry telling_cmp (bulletins.reaches prefix end n) kept.entries c.args.telling c.args.time none_kept
    ∙ ap (λ (m : BTreeMap Telling ℕ). list_any (bulletins.reaches prefix end n) m.entries || bulletins.reaches prefix end n (c.args.telling, c.args.time)) c.get_mut.follows.holds-at-none
