use Rattle.std.proofs.Common.{◌≡◌, ◌++◌, ◌∷◌, [], ◌∙◌, ◌+◌, ◌<◌, ℕ, List, ap, ap₂, get_or, length, map, sym, take}
use Rattle.std.proofs.lemmas.List.{map-append, take_more}
use Rattle.rtps_parts.specs.Parts as parts
use Rattle.rtps_evidence.specs.Explanation as explanation
use Rattle.rtps_check.specs.CheckText as check_text
use Rattle.rtps_check.proofs.topic_table.table_rows.Goals as goal

-- the rows so far, with that of one more topic
row_more : {V U T R : Type 0} (told : V → R) (line : U → R) (value : T → U) (head : R) (rows : List V) (row : V) (topics : List T) (i : ℕ) (none : T) → i < length topics
    → told row ≡ line (value (get_or topics i none)) → map told rows ≡ head ∷ map line (map value (take i topics))
    → map told (rows ++ row ∷ []) ≡ head ∷ map line (map value (take (i + 1) topics))
row_more told line value head rows row topics i none within is so_far =
    map-append told rows (row ∷ []) ∙ ap₂ (λ all one. all ++ one ∷ []) so_far is
    ∙ ap (λ all. head ∷ all) (sym (map-append line (map value (take i topics)) (value (get_or topics i none) ∷ [])))
    ∙ ap (λ all. head ∷ map line all) (sym (map-append value (take i topics) (get_or topics i none ∷ [])))
    ∙ ap (λ all. head ∷ map line (map value all)) (sym (take_more topics i none within))

pub loop-topic-preserved : goal.loop-topic-preserved
loop-topic-preserved c =
    let told = row_more (λ row. map parts.part_text row.items) (check_text.topic_row c.args.scope) (λ topic. map explanation.explanation_value topic.now) check_text.table_head c.loop-topic.rows.items c.in_ok-from_array-2.field-0
    c.args.topics.now c.loop-topic.topic-index (record { ref_ptr = (0, 0); now = [] }) c.loop-topic-test.true (ap (map parts.part_text) c.in_ok-from_array-2.ensures.items ∙ c.topic_row.ensures) c.loop-topic.invariant in
    ap (map (λ row. map parts.part_text row.items)) c.in_ok-push-2.ensures.items ∙ told
