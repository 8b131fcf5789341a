use Rattle.std.proofs.Common.{◌≡◌, ◌++◌, map, take, flat_map, string_bytes}
use Rattle.rtps_evidence.specs.Explanation as explanation
use Rattle.rtps_check.specs.CheckText as check_text
use Rattle.rtps_check.proofs.sections.push_sections.Given as goal

abbrev pub invariant-loop-rows : goal.invariant-loop-rows
invariant-loop-rows l =
    string_bytes l.text ≡ string_bytes l.initial.text
    ++ flat_map (check_text.section (check_text.row_told l.told)) (map (λ topic. map explanation.explanation_value topic.now) (take l.rows-index l.topics))
