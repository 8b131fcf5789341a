use Rattle.std.proofs.Common.{◌∙◌, Some, ap, refl, sym}
use Rattle.rtps_audit.specs.Placed as placed
use Rattle.rtps_evidence.specs.Questions as questions
use Rattle.rtps_evidence.proofs.QuestionLemmas.{asked_more, asked_still}
use Rattle.rtps_evidence.proofs.questions.Questions.hear.Goals as goal

pub returns-then-not-asks_behind : goal.returns-then-not-asks_behind
returns-then-not-asks_behind c = λ place acts few are.
    let pair = c.args.pair in
    let x = placed.placed_value c.args.placed.now in
    asked_still place pair.writer pair.reader acts x c.args.self.now
    (ap (λ p. questions.questions_behind p pair.writer pair.reader x) (sym are.since) ∙ sym c.asks_behind.ensures ∙ c.if-not-asks_behind.true) are

pub returns : goal.returns
returns c = λ place acts few are.
    let pair = c.args.pair in
    let x = placed.placed_value c.args.placed.now in
    asked_more place pair.writer pair.reader acts x c.args.self.now _ c.location_of-place.result
    (ap (λ p. questions.questions_behind p pair.writer pair.reader x) (sym are.since) ∙ sym c.asks_behind.ensures ∙ c.if-not-asks_behind.false) few c.location_of-place.ensures are
    refl c.saturating_add.ensures (ap Some c.unwrap_or.ensures) refl
