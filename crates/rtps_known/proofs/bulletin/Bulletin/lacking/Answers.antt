use Rattle.std.proofs.Common.{◌≡◌, ◌∙◌, ℕ, List, ap, arith, max, min, sym}
use Rattle.std.specs.BTreeMap.{is_at}
use Rattle.std.specs.List.{list_any}
use Rattle.rtps_coverage.specs.Stretches as stretches
use Rattle.rtps_coverage.specs.declared.stretch.Stretch.{Stretch}
use Rattle.rtps_discovery.specs.GuidOrder as guid_order
use Rattle.rtps_known.specs.Bulletins as bulletins
use Rattle.rtps_known.specs.Lacking as lacking
use Rattle.rtps_known.specs.Tellings as tellings
use Rattle.rtps_known.specs.declared.layout.TheConstants as layout
use Rattle.rtps_known.proofs.KnownLemmas.{guids_alike}
use Rattle.rtps_known.proofs.LackingLemmas.{any_same, counted_is, listed_is}
use Rattle.rtps_known.proofs.bulletin.Bulletin.lacking.Goals as goal

pub returns-clause-lacking : goal.returns-clause-lacking
returns-clause-lacking c = λ acts were.
    let bulletin = c.args.self.now in
    let prefix = c.args.prefix in
    let end = c.args.end in
    let one = c.deref.result.now in
    let other = c.deref-2.result.now in
    let one_is : (n : ℕ) → stretches.stretches_have one n ≡ list_any (bulletins.reaches prefix end n) bulletin.told.entries = λ n. ap (λ (l : List Stretch). stretches.stretches_have l n) c.deref.ensures.value ∙ c.in_ok-told.ensures n in
    let other_is : (n : ℕ) → stretches.stretches_have other n ≡ list_any (bulletins.reaches prefix end n) bulletin.told.entries = λ n. ap (λ (l : List Stretch). stretches.stretches_have l n) c.deref-2.ensures.value ∙ c.in_ok-told.ensures n in
    let from_is : c.min-from.result ≡ min (max (bulletins.base_by bulletin prefix) 1) layout.END = grind (arith, c.max.ensures, c.min-from.ensures, c.base-base.ensures) in
    record {
      ordered = c.in_ok-endpoints.ensures.ordered;
      endpoints = λ guid.
          ap (list_any (tellings.is_guid guid)) c.in_ok-endpoints.ensures.items ∙ sym (any_same (is_at (guid_order.guid_cmp guid)) (tellings.is_guid guid) (λ g. guids_alike guid g) c.in_ok-found.found.keys)
          ∙ c.in_ok-found.ensures guid ∙ ap (λ (b : ℕ). list_any (lacking.is_listed one bulletin b guid) bulletin.announced.keys) c.base-base.ensures
          ∙ listed_is acts bulletin prefix end one were one_is guid;
      unnamed = c.in_ok-unnamed.ensures.count ∙ counted_is acts bulletin prefix end c.min-from.result other c.in_ok-marked.marked.items were from_is other_is c.in_ok-marked.ensures;
    }
