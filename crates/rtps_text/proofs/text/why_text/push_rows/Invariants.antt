use Rattle.std.proofs.Common.{◌≡◌, ◌++◌, take, flat_map, string_bytes}
use Rattle.rtps_evidence.specs.Explanation as explanation
use Rattle.rtps_text.specs.WhyText as why_text
use Rattle.rtps_text.proofs.text.why_text.push_rows.Given as goal

abbrev pub invariant-loop-row : goal.invariant-loop-row
invariant-loop-row l =
    string_bytes l.text
    ≡ string_bytes l.initial.text ++ flat_map (λ row. why_text.row_text (why_text.row_told l.telling) (explanation.explanation_value row)) (take l.row-index l.rows)
