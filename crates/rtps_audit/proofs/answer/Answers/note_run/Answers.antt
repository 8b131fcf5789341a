use Rattle.std.specs.BTreeMap.Entry.{map_with_value}
use Rattle.rtps_receiver.specs.Values as values
use Rattle.std.proofs.Common.{map, rules}
use Rattle.rtps_audit.specs.Placed as placed_spec
use Rattle.rtps_audit.proofs.PlacedLemmas.{answers_of_reader}
use Rattle.rtps_audit.proofs.answer.Answers.note_run.Goals as goal

pub returns : goal.returns
returns c = λ other.
    let new = map_with_value c.in_ok-self.field-0 c.note_answers_of.new.answers in
    let placed = placed_spec.placed_at c.args.datagram (map values.spoken_value c.args.run.now) in
    let added : placed_spec.AddsAnswers c.args.self.now.readers new placed = answers_of_reader c.args.self.now.readers new c.args.reader _ c.note_answers_of.new.answers _ _ placed c.new.ensures c.in_ok-self.ensures.value c.or_insert-found.ensures.value (c.in_ok-self.ensures.update.0 c.note_answers_of.new.answers) c.in_ok-note_answers_of.ensures in
    let here = added other in
    search rules
