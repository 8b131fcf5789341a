use Rattle.std.proofs.Common.{◌<◌, ◌∙◌, ap, get_or, length, subst, sym, Some}
use Rattle.std.specs.Ordering.{is_eq}
use Rattle.std.proofs.lemmas.List.{get_or_read}
use Rattle.rtps_receiver.specs.Values as values
use Rattle.rtps_discovery.specs.GuidOrder.{guid_cmp}
use Rattle.rtps_audit.specs.Placed as placed_spec
use Rattle.rtps_audit.proofs.Offered.{same_place}
use Rattle.rtps_passes.specs.Judging as judging
use Rattle.rtps_passes.specs.declared.judged_writer.JudgedWriter.{JudgedWriter}
use Rattle.rtps_passes.proofs.PlaceLemmas.{FindsWriter}
use Rattle.rtps_passes.proofs.TakingLemmas.{act_elsewhere, from_found, none_taken, one_taken}
use Rattle.rtps_passes.proofs.judging.Judging.hear.Goals as goal

pub returns-in_default-clause-taken : goal.returns-in_default-clause-taken
returns-in_default-clause-taken c = λ from datagram pairs asked heard known.
    let writers = c.args.self.now.writers.items in
    let act : placed_spec.PlacedValue = record { datagram = datagram; act = values.spoken_value c.args.act.now } in
    let found = subst (λ l. FindsWriter l c.origin.result c.place_of.result) c.deref.ensures.value c.place_of.ensures.found known.in_order in
    none_taken from datagram pairs asked heard asked _ writers
    (λ k d lt one. act_elsewhere from datagram asked heard act (get_or writers k d) (from_found (get_or writers k d).writer c.origin.result act _ c.origin.ensures (found k d lt ∙ ap (λ f. judging.is_found f k) c.in_default.is)) one) known

pub returns-in_ok-hear-clause-taken : goal.returns-in_ok-hear-clause-taken
returns-in_ok-hear-clause-taken c = λ from datagram pairs asked heard known.
    let writers = c.args.self.now.writers.items in
    let place = c.in-Some.place in
    let act : placed_spec.PlacedValue = record { datagram = datagram; act = values.spoken_value c.args.act.now } in
    let found = subst (λ l. FindsWriter l c.origin.result (Some place)) c.deref.ensures.value c.in-Some.ensures.found known.in_order in
    let within = subst (λ l. place < length l) c.deref.ensures.value c.in-Some.ensures.within in
    let one = c.index_mut.result.now in
    let here = get_or_read writers place one within c.index_mut.ensures.value in
    let its = from_found one.writer c.origin.result act _ c.origin.ensures (ap (λ (w : JudgedWriter). is_eq (guid_cmp w.writer c.origin.result)) (here one) ∙ found place one within ∙ same_place place) in
    one_taken from datagram pairs asked heard asked _ writers place c.hear.new.self (λ d. c.in_ok-hear.ensures.writer ∙ ap (λ (w : JudgedWriter). w.writer) (here d)) (λ d. c.in_ok-hear.ensures.readers ∙ ap (λ (w : JudgedWriter). w.readers) (here d))
    (λ d lt taken. c.in_ok-hear.ensures.taken from datagram asked heard its (subst (judging.HasTakenIn from datagram asked heard) (sym (here d)) taken))
    (λ k d lt differs taken. act_elsewhere from datagram asked heard act (get_or writers k d) (from_found (get_or writers k d).writer c.origin.result act _ c.origin.ensures (found k d lt ∙ differs)) taken) known
