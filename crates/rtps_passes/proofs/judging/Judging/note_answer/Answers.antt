use Rattle.std.proofs.Common.{◌≡◌, ◌<◌, ◌∙◌, ◌++◌, ◌∷◌, [], All, ap, arith, get_or, length, subst, sym, Some}
use Rattle.std.specs.Ordering.{is_eq}
use Rattle.std.proofs.lemmas.List.{get_or_read}
use Rattle.rtps_receiver.specs.Values as values
use Rattle.rtps_discovery.specs.GuidOrder.{guid_cmp}
use Rattle.rtps_audit.specs.Placed as placed_spec
use Rattle.rtps_audit.proofs.Offered.{same_place}
use Rattle.rtps_passes.specs.Judging as judging
use Rattle.rtps_passes.specs.declared.judged_writer.JudgedWriter.{JudgedWriter}
use Rattle.rtps_passes.proofs.PlaceLemmas.{FindsWriter}
use Rattle.rtps_passes.proofs.TakingLemmas.{answer_elsewhere, answer_found, answer_stands, none_taken, one_taken}
use Rattle.rtps_passes.proofs.judging.Judging.note_answer.Goals as goal

pub returns-in_default-clause-taken : goal.returns-in_default-clause-taken
returns-in_default-clause-taken c = λ from pairs asked heard counted early known.
    let writers = c.args.self.now.writers.items in
    let act : placed_spec.PlacedValue = record { datagram = c.args.self.now.datagrams; act = values.spoken_value c.args.act.now } in
    none_taken from c.args.self.now.datagrams pairs asked heard _ heard writers
    (λ k d lt one. answer_elsewhere from c.args.self.now.datagrams asked heard act (get_or writers k d) (λ place e within. c.in_default.ensures.answer (judging.pair_with (get_or writers k d).writer (get_or (get_or writers k d).readers.items place e))) one) known

pub returns-in_default-place_of-clause-taken : goal.returns-in_default-place_of-clause-taken
returns-in_default-place_of-clause-taken c = λ from pairs asked heard counted early known.
    let writers = c.args.self.now.writers.items in
    let act : placed_spec.PlacedValue = record { datagram = c.args.self.now.datagrams; act = values.spoken_value c.args.act.now } in
    let pair = c.in-Some.pair in
    none_taken from c.args.self.now.datagrams pairs asked heard _ heard writers
    (λ k d lt one. answer_elsewhere from c.args.self.now.datagrams asked heard act (get_or writers k d) (λ place e within. answer_found act pair c.in-Some.answer (get_or writers k d).writer _ c.in-Some.ensures.answer (subst (λ l. FindsWriter l pair.writer c.place_of.result) c.deref.ensures.value c.place_of.ensures.found known.in_order k d lt ∙ ap (λ f. judging.is_found f k) c.in_default-place_of.is) (get_or (get_or writers k d).readers.items place e)) one) known

pub returns-in_ok-note-clause-taken : goal.returns-in_ok-note-clause-taken
returns-in_ok-note-clause-taken c = λ from pairs asked heard counted early known.
    let writers = c.args.self.now.writers.items in
    let act : placed_spec.PlacedValue = record { datagram = c.args.self.now.datagrams; act = values.spoken_value c.args.act.now } in
    let pair = c.in-Some.pair in
    let answer = c.in-Some.answer in
    let place = c.in-Some-place_of.place in
    let one = c.index_mut.result.now in
    let found = subst (λ l. FindsWriter l pair.writer (Some place)) c.deref.ensures.value c.in-Some-place_of.ensures.found known.in_order in
    let within = subst (λ l. place < length l) c.deref.ensures.value c.in-Some-place_of.ensures.within in
    let here = get_or_read writers place one within c.index_mut.ensures.value in
    let is = c.in-Some.ensures.answer in
    let same : answer.datagram ≡ c.args.self.now.datagrams = answer_stands act pair answer is in
    let its = answer_found act pair answer one.writer _ is (ap (λ (w : JudgedWriter). is_eq (guid_cmp w.writer pair.writer)) (here one) ∙ found place one within ∙ same_place place) in
    let early' = subst (λ n. All (λ (at : placed_spec.PlacedValue). at.datagram < n) heard) (sym same) early in
    one_taken from c.args.self.now.datagrams pairs asked heard (asked ++ act ∷ []) heard writers place c.note.new.self (λ d. c.in_ok-note.ensures.writer ∙ ap (λ (w : JudgedWriter). w.writer) (here d)) (λ d. c.in_ok-note.ensures.readers ∙ ap (λ (w : JudgedWriter). w.readers) (here d))
    (λ d lt taken. subst (λ n. judging.HasTakenIn from n (asked ++ act ∷ []) heard c.note.new.self) same
    (c.in_ok-note.ensures.taken from asked heard act (omega (arith, same)) early' its (subst (λ n. judging.HasTakenIn from n asked heard one) (sym same) (subst (judging.HasTakenIn from c.args.self.now.datagrams asked heard) (sym (here d)) taken))))
    (λ k d lt differs taken. answer_elsewhere from c.args.self.now.datagrams asked heard act (get_or writers k d) (λ at e inside. answer_found act pair answer (get_or writers k d).writer _ is (found k d lt ∙ differs) (get_or (get_or writers k d).readers.items at e)) taken) known
