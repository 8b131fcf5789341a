use Rattle.std.proofs.Common.{append-nil, arith, map, subst, sym}
use Rattle.std.proofs.lemmas.List.{take_all}
use Rattle.rtps_receiver.specs.Values as values
use Rattle.rtps_audit.specs.Placed as placed
use Rattle.rtps_audit.proofs.PlacedLemmas.{answers_joined, placed_up_to}
use Rattle.rtps_audit.proofs.answer.note_answers.Goals as goal

pub runs-init : goal.runs-init
runs-init c = record {
  within = omega arith;
  added = λ pair. sym (append-nil _);
}

pub runs-preserved : goal.runs-preserved
runs-preserved c =
    let acts = c.args.acts.now in
    let start = c.runs.start in
    let end = c.in_ok-start.start in
    record {
      within = c.in_ok-start.ensures.end.1;
      added = subst (placed.AddsAnswers c.args.answers.now.readers c.note_next.new.answers.readers) (sym (placed_up_to c.args.datagram acts start end (omega (arith, c.in_ok-start.ensures.end.0))))
          (λ pair. answers_joined pair _ _ _ _ _ (c.runs.invariant.added pair) (c.in_ok-start.ensures.added pair));
    }

pub returns : goal.returns
returns c =
    subst (λ l. placed.AddsAnswers c.args.answers.now.readers c.runs.answers.readers (placed.placed_at c.args.datagram (map values.spoken_value l))) (take_all c.runs.start c.args.acts.now (omega (arith, c.runs-test.false))) c.runs.invariant.added
