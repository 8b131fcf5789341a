use Rattle.std.proofs.Common.{◌≡◌, ◌∙◌, ap, rules, subst, sym}
use Rattle.std.specs.declared.cmp.Ordering.TheVariants.{Equal}
use Rattle.std.proofs.lemmas.Cmp.{tied_itself}
use Rattle.std.proofs.lemmas.List.{get_or_default}
use Rattle.std.proofs.lemmas.List.Sorted.{answers_always}
use Rattle.rtps_ids.specs.declared.identity.Guid.{Guid}
use Rattle.rtps_discovery.proofs.Offered.{guids_total}
use Rattle.rtps_discovery.specs.GuidOrder.{guid_cmp}
use Rattle.rtps_passes.specs.Judging as judging
use Rattle.rtps_passes.specs.declared.judged_writer.JudgedWriter.{JudgedWriter}
use Rattle.rtps_passes.proofs.PlaceLemmas.{found_at, found_place}
use Rattle.rtps_passes.proofs.judging.place_of.Goals as goal

pub returns-then-eq-clause-found : goal.returns-then-eq-clause-found
returns-then-eq-clause-found c = λ sorted place d lt.
    let writers = c.args.writers.now in
    let writer = c.args.writer in
    let first = c.args.first in
    let one = c.index-writers-first.result in
    let within = c.if-first-writers.true in
    let same : one.writer ≡ writer = search rules in
    let equal = subst (λ (w : Guid). guid_cmp one.writer w ≡ Equal) same (tied_itself guids_total one.writer) in
    found_at (λ (w : JudgedWriter). w.writer) writers sorted writer first within (λ e. subst (λ (w : JudgedWriter). guid_cmp w.writer writer ≡ Equal) (c.index-writers-first.is ∙ get_or_default writers first one e within) equal) place d lt

pub returns-clause-found : goal.returns-clause-found
returns-clause-found c = λ sorted place d lt.
    found_place (λ (w : JudgedWriter). w.writer) c.args.writers.now sorted c.args.writer c.binary_search_by_key.result c.binary_search_by_key.ensures.bound (c.binary_search_by_key.ensures.position (λ (w : JudgedWriter). w.writer) (answers_always _ _ _ (λ f a r g called. search rules))) place d lt
    ∙ ap (λ found. judging.is_found found place) (sym c.ok.ensures.value)
