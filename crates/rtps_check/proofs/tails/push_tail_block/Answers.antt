use Rattle.std.proofs.Common.{◌≡◌, ◌++◌, ◌∷◌, [], ◌∙◌, ◌==◌, ℕ, List, ap, false, length, map, string_bytes, sym}
use Rattle.std.proofs.lemmas.List.{length-map}
use Rattle.std.proofs.lemmas.Result.{on_ok_weaker}
use Rattle.rtps_report.specs.ByTopic as by_topic
use Rattle.rtps_evidence.specs.declared.explanation.Explanation.{Explanation}
use Rattle.rtps_evidence.specs.Explanation as explanation
use Rattle.rtps_lines.specs.Notes as notes
use Rattle.rtps_lines.specs.TailNames as tail_names
use Rattle.rtps_check.specs.CheckText as check_text
use Rattle.rtps_check.proofs.tails.push_tail_block.Goals as goal

-- the lines of some rows
some_tails : (rows : List Explanation) → (length rows == 0) ≡ false
    → check_text.tails_text (length rows) (tail_names.longest_tail (map explanation.explanation_value rows)) (notes.joined_names (by_topic.topics_of (map explanation.explanation_value rows))) ≡ check_text.tails_of (map explanation.explanation_value rows)
some_tails [] some = absurd cc
some_tails (row ∷ rows) some =
    let all = map explanation.explanation_value (row ∷ rows) in
    ap (λ pairs. check_text.tails_text pairs (tail_names.longest_tail all) (notes.joined_names (by_topic.topics_of all))) (sym (length-map (row ∷ rows) explanation.explanation_value))

pub returns : goal.returns
returns c =
    let old = string_bytes c.args.text.now in
    let alone = c.in_ok-alone.alone in
    let rows = map explanation.explanation_value alone.items in
    let pairs = c.len.ensures ∙ alone.ok.0 in
    let longest = c.longest_tail.ensures ∙ ap (λ (all : List Explanation). tail_names.longest_tail (map explanation.explanation_value all)) c.deref-2.ensures.value in
    let names = c.deref-3.ensures ∙ c.in_ok-names.ensures ∙ ap (λ (all : List Explanation). notes.joined_names (by_topic.topics_of (map explanation.explanation_value all))) c.deref.ensures.value in
    let some = ap (λ (n : ℕ). n == 0) (sym alone.ok.0) ∙ sym c.is_empty.ensures ∙ c.if-is_empty.false in
    on_ok_weaker c.push_tails.result
    (λ last. last ∙ ap (λ n. old ++ check_text.tails_text n c.longest_tail.result c.deref-3.result.now) pairs ∙ ap (λ n. old ++ check_text.tails_text (length alone.items) n c.deref-3.result.now) longest
    ∙ ap (λ all. old ++ check_text.tails_text (length alone.items) (tail_names.longest_tail rows) all) names ∙ ap (λ lines. old ++ lines) (some_tails alone.items some)
    ∙ ap (λ (all : List explanation.ExplanationValue). old ++ check_text.tails_of all) c.in_ok-alone.ensures)
    c.push_tails.ensures
