use Rattle.std.proofs.Common.{◌∙◌, ◌<◌, ap, cond, filter, get_or, refl, None, Some}
use Rattle.std.proofs.lemmas.List.Elements.{All-filter}
use Rattle.rtps_audit.specs.Placed as placed_spec
use Rattle.rtps_passes.specs.Judging as judging
use Rattle.rtps_passes.proofs.TakingLemmas.{answer_elsewhere, answer_taken}
use Rattle.rtps_passes.proofs.judged_writer.JudgedWriter.note.Goals as goal

pub returns-in-Some-clause-taken : goal.returns-in-Some-clause-taken
returns-in-Some-clause-taken c = λ from asked heard act counted early is known.
    let old = c.args.self.now in
    let answer = c.args.answer in
    let heard_of = filter (placed_spec.is_from old.writer) heard in
    let early_of = All-filter (placed_spec.is_from old.writer) (λ (at : placed_spec.PlacedValue). at.datagram < answer.datagram) heard early in
    answer_taken from asked heard act c.args.reader answer c.in-Some.place old _ refl refl counted is (c.in-Some.ensures.found known.in_order)
    (λ asks stand. c.note.ensures.stand from old.writer (judging.pairs_of old) heard_of asks counted early_of stand) known

pub returns-in_default-clause-taken : goal.returns-in_default-clause-taken
returns-in_default-clause-taken c = λ from asked heard act counted early is known.
    let old = c.args.self.now in
    answer_elsewhere from c.args.answer.datagram asked heard act old
    (λ place d lt. is (get_or old.readers.items place d) ∙ ap (λ b. cond b (Some c.args.answer) None) (c.place_of.ensures.found known.in_order place d lt ∙ ap (λ found. judging.is_found found place) c.in_default.is)) known
