use Rattle.std.proofs.Common.{◌≡◌, ◌++◌, ◌∷◌, [], ◌∙◌, ◌==◌, List, ap, codes, false, length, map, refl, string_bytes, sym}
use Rattle.std.proofs.lemmas.Result.{on_ok_weaker}
use Rattle.rtps_parts.specs.Table as table
use Rattle.rtps_evidence.specs.Explanation as explanation
use Rattle.rtps_report.specs.declared.advice.Scope.{Scope}
use Rattle.rtps_report.specs.declared.totals.Totals.{Totals}
use Rattle.rtps_lines.proofs.Offered.{two_parts}
use Rattle.rtps_check.specs.CheckText as check_text
use Rattle.rtps_check.proofs.topic_table.push_topic_table.Goals as goal

-- the table of some topics
some_topics : {X : Type 0} (scope : Scope) (totals : Totals) (rows : X → List explanation.ExplanationValue) (topics : List X) → (length topics == 0) ≡ false
    → codes "\n" ++ table.table (check_text.shown_places totals) (check_text.table_head ∷ map (check_text.topic_row scope) (map rows topics)) ≡ check_text.topic_table scope totals (map rows topics)
some_topics scope totals rows [] some = absurd cc
some_topics scope totals rows (topic ∷ topics) some = refl

pub returns : goal.returns
returns c =
    let old = string_bytes c.args.text.now in
    let totals = c.args.counted.0.now in
    let scope = c.args.counted.1 in
    let topics = c.args.topics.now in
    let lines = table.table (check_text.shown_places totals) (check_text.table_head ∷ map (check_text.topic_row scope) (map (λ topic. map explanation.explanation_value topic.now) topics)) in
    let some = sym c.is_empty.ensures ∙ c.if-is_empty.false in
    on_ok_weaker c.push_table.result
    (λ last.
    let told : string_bytes c.push_table.new.text ≡ string_bytes c.push_str.new.self ++ lines = cc (last, c.deref.ensures.value, c.deref-2.ensures.value, c.in_ok-places.ensures, c.in_ok-rows.ensures) in
    two_parts old (codes "\n") lines c.in_ok-push_str.ensures.bytes told ∙ ap (λ all. old ++ all) (some_topics scope totals (λ topic. map explanation.explanation_value topic.now) topics some))
    c.push_table.ensures
