use Rattle.std.proofs.Common.{◌∙◌, ap, length, subst, sym}
use Rattle.std.specs.List.Sorted.{IsBinarySearchResult, IsSearchInRange, IsStrictlySortedBy}
use Rattle.std.proofs.lemmas.List.{map-id}
use Rattle.rtps_ids.specs.declared.identity.Guid.{Guid}
use Rattle.rtps_discovery.specs.GuidOrder.{guid_cmp}
use Rattle.rtps_passes.specs.Judging as judging
use Rattle.rtps_passes.proofs.PlaceLemmas.{found_place}
use Rattle.rtps_passes.proofs.judged_writer.JudgedWriter.place_of.Goals as goal

pub returns-clause-found : goal.returns-clause-found
returns-clause-found c = λ sorted place d lt.
    let readers = c.args.self.now.readers.items in
    let is = c.deref.ensures.value in
    found_place (λ (guid : Guid). guid) readers (subst (IsStrictlySortedBy guid_cmp) (sym (map-id readers)) sorted) c.args.reader c.binary_search.result (subst (λ l. IsSearchInRange c.binary_search.result (length l)) is c.binary_search.ensures.bound)
    (subst (λ l. IsBinarySearchResult (λ (guid : Guid). guid_cmp guid c.args.reader) l c.binary_search.result) is c.binary_search.ensures.position) place d lt
    ∙ ap (λ found. judging.is_found found place) (sym c.ok.ensures.value)
