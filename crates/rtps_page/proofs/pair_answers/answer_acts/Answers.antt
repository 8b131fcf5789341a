use Rattle.std.proofs.Common.{◌≡◌, ◌∙◌, List, Option, ap, length, map, subst, sym, IfOk, IfSome}
use Rattle.std.specs.Global.{Vec}
use Rattle.rtps_audit.specs.Placed as placed
use Rattle.rtps_audit.specs.declared.placed.Placed.{Placed}
use Rattle.rtps_page.proofs.AnswerLemmas.{as_many}
use Rattle.rtps_page.proofs.EntryLemmas.{answered_from}
use Rattle.rtps_page.proofs.Written.{answers_in}
use Rattle.rtps_page.proofs.pair_answers.answer_acts.Goals as goal

pub returns-in-Some : goal.returns-in-Some
returns-in-Some c = λ intake is.
    let pair = c.args.pair in
    let acts = c.acts_of-acts.result.now in
    let from = ap (answers_in pair) (c.acts_of-acts.ensures intake is) ∙ answered_from pair (placed.placed_in intake.acts) in
    let long : length c.answers_of.result.now ≡ length (answers_in pair (map placed.placed_value acts)) =
    ap length (c.answers_of.ensures intake is) ∙ as_many pair (placed.placed_in intake.acts) ∙ ap length (sym from) in
    subst (λ (o : Option (Vec Placed)). IfSome o (λ kept. length c.answers_of.result.now ≡ length (answers_in pair (map placed.placed_value acts)) → map placed.placed_value kept.items ≡ answers_in pair (map placed.placed_value acts)))
    c.in-Some.is c.in_ok-found.ensures long
    ∙ from

pub returns-in-None : goal.returns-in-None
returns-in-None c = λ intake is.
    let pair = c.args.pair in
    let from = ap (answers_in pair) (c.acts_of-acts.ensures intake is) ∙ answered_from pair (placed.placed_in intake.acts) in
    subst (λ (l : List placed.PlacedValue). IfOk c.acts_kept.result (λ acts. map placed.placed_value acts.items ≡ l)) from c.acts_kept.ensures
