use Rattle.std.proofs.Common.{◌++◌, ◌∙◌, ap, codes, string_bytes}
use Rattle.std.proofs.lemmas.Result.{on_ok_weaker}
use Rattle.rtps_evidence.specs.Explanation as explanation
use Rattle.rtps_report.specs.RowFacts as row_facts
use Rattle.rtps_lines.specs.Lines as lines
use Rattle.rtps_lines.proofs.Offered.{three_parts}
use Rattle.rtps_check.specs.CheckText as check_text
use Rattle.rtps_check.proofs.sections.push_head.Goals as goal

pub returns : goal.returns
returns c =
    let row = explanation.explanation_value c.args.row.now in
    let told = check_text.row_told c.args.told in
    on_ok_weaker c.push_kinds.result
    (λ last. three_parts (string_bytes c.args.text.now) (check_text.pair_lines told row) (codes "  " ++ lines.verdict_text row.evidence.verdict) (check_text.kinds_text (row_facts.outcomes_of row.evidence))
    c.in_ok-push_pair.ensures c.in_ok-write.ensures.bytes (last ∙ ap (λ outcomes. string_bytes c.write.new.self ++ check_text.kinds_text outcomes) c.outcomes_of.ensures))
    c.push_kinds.ensures
