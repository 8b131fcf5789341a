use Rattle.std.proofs.Common.{◌≡◌, ◌∷◌, map, take}
use Rattle.rtps_evidence.specs.Explanation as explanation
use Rattle.rtps_parts.specs.Parts as parts
use Rattle.rtps_check.specs.CheckText as check_text
use Rattle.rtps_check.proofs.topic_table.table_rows.Given as goal

abbrev pub invariant-loop-topic : goal.invariant-loop-topic
invariant-loop-topic l =
    map (λ row. map parts.part_text row.items) l.rows.items
    ≡ check_text.table_head ∷ map (check_text.topic_row l.scope) (map (λ topic. map explanation.explanation_value topic.now) (take l.topic-index l.topics))
