use Rattle.std.proofs.Common.{◌≡◌, map, subst, sym, take, ◌∷◌, []}
use Rattle.rtps_receiver.specs.Speech as speech
use Rattle.rtps_receiver.specs.Values as values
use Rattle.rtps_receiver.specs.declared.spoken.Spoken.{Spoken}
use Rattle.rtps_audit.specs.Placed as placed_spec
use Rattle.rtps_audit.proofs.PlacedLemmas.{AddsAnswersOf-joined, placed_more}
use Rattle.rtps_audit.proofs.answer.note_answers_of.Goals as goal

pub loop-act-preserved : goal.loop-act-preserved
loop-act-preserved c =
    let run = c.args.run.now in
    let k = c.loop-act.act-index in
    let act = c.act-item.result in
    let lt = c.loop-act-test.true in
    let of : speech.origin_of (values.spoken_value act) ≡ c.args.reader = subst (λ (a : Spoken). speech.origin_of (values.spoken_value a) ≡ c.args.reader) (sym c.act-item.is) (c.requires k act lt) in
    let placed = placed_spec.placed_at c.args.datagram (values.spoken_value act ∷ []) in
    let more = subst (λ r. placed_spec.AddsAnswersOf r c.loop-act.answers.map c.note_answer.new.answers.map placed) of c.in_ok-note_answer.ensures in
    subst (placed_spec.AddsAnswersOf c.args.reader c.args.answers.now.map c.note_answer.new.answers.map) (sym (placed_more c.args.datagram run k act lt c.act-item.is))
    (AddsAnswersOf-joined c.args.reader _ _ _ (placed_spec.placed_at c.args.datagram (map values.spoken_value (take k run))) placed c.loop-act.invariant more)
