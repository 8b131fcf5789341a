use Rattle.std.proofs.Common.{◌∙◌, ap, arith, map, sym}
use Rattle.std.specs.List.{list_any}
use Rattle.std.proofs.lemmas.List.{take_all}
use Rattle.rtps_audit.specs.Placed as placed_spec
use Rattle.rtps_evidence.specs.LostAnswers as lost_answers
use Rattle.rtps_evidence.proofs.CountedLemmas.{own_at}
use Rattle.rtps_evidence.proofs.FindLemmas.{any_filter, any_found}
use Rattle.rtps_evidence.proofs.LackLemmas.{other_answerer}
use Rattle.rtps_evidence.proofs.excused.answers_another.Goals as goal

pub returns-then-is_to_another : goal.returns-then-is_to_another
returns-then-is_to_another c = λ placed is.
    let pair = c.args.pair in
    let test = lost_answers.answers_another pair.writer pair.reader in
    let acts = c.args.acts.now in
    let i = c.loop-placed.placed-index in
    let own = own_at (placed_spec.is_from pair.reader) acts i c.placed-item.result placed is c.loop-placed-test.true c.placed-item.is in
    let here = sym (c.is_to_another.ensures own) ∙ c.if-is_to_another.true in
    sym (sym (any_filter test (placed_spec.is_from pair.reader) (other_answerer pair.writer pair.reader) placed) ∙ ap (list_any test) (sym is) ∙ any_found placed_spec.placed_value test acts i c.placed-item.result c.loop-placed-test.true c.placed-item.is here)

pub returns : goal.returns
returns c = λ placed is.
    let pair = c.args.pair in
    let test = lost_answers.answers_another pair.writer pair.reader in
    let acts = c.args.acts.now in
    sym (sym (any_filter test (placed_spec.is_from pair.reader) (other_answerer pair.writer pair.reader) placed) ∙ ap (list_any test) (sym is)
    ∙ ap (λ l. list_any test (map placed_spec.placed_value l)) (sym (take_all c.loop-placed.placed-index acts (omega (arith, c.loop-placed-test.false)))) ∙ c.loop-placed.invariant placed is)
