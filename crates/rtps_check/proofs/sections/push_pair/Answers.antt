use Rattle.std.proofs.Common.{◌≡◌, ◌++◌, [], ◌∙◌, OnOk, List, ℕ, ap, append-nil, codes, decimal, rules, string_bytes, sym}
use Rattle.std.proofs.lemmas.Result.{on_ok_weaker}
use Rattle.rtps_report.specs.RowFacts as row_facts
use Rattle.rtps_report.specs.Ends as ends_spec
use Rattle.rtps_lines.specs.EndText as end_text
use Rattle.rtps_lines.proofs.Offered.{three_parts}
use Rattle.rtps_check.specs.CheckText as check_text
use Rattle.rtps_check.specs.TalkText as talk_text
use Rattle.rtps_check.proofs.EndLemmas.{end_is}
use Rattle.rtps_check.proofs.sections.push_pair.Goals as goal

pub returns : goal.returns
returns c =
    let row = c.args.row.now in
    let told = check_text.row_told c.args.told in
    let ends = told.talk.ends in
    let times = told.times in
    let old = string_bytes c.args.text.now in
    let first = row_facts.row_from told.scope.from row.evidence.in_span in
    let names : List ℕ → List ℕ → List ℕ → List ℕ =
    λ writer reader number. codes "  writer " ++ (writer ++ (codes "\n  reader " ++ (reader ++ (codes ", from " ++ number)))) in
    let writer = c.end_by-writer in
    let reader = c.end_by-reader in
    let reader_text = end_text.end_text reader.result.0 (ends_spec.end_value reader.result.1) in
    let named : string_bytes c.write.new.self ≡ old ++ names (end_text.end_text writer.result.0 (ends_spec.end_value writer.result.1)) reader_text (decimal c.row_from-first.result) = c.in_ok-write.ensures.bytes in
    let last : OnOk c.push_str.result (string_bytes c.push_str.new.self ≡ string_bytes c.push_left.new.text ++ codes "\n") = search rules in
    on_ok_weaker c.push_str.result
    (three_parts old (names (talk_text.ended ends row.pair.writer) (talk_text.ended ends row.pair.reader) (decimal first ++ [])) (check_text.left_text times (row_facts.left_in row.evidence.in_span)) (codes "\n")
    (named
    ∙ ap (λ text. old ++ names text reader_text (decimal c.row_from-first.result)) (end_is ends row.pair.writer _ _ writer.ensures.guid writer.ensures.end)
    ∙ ap (λ text. old ++ names (talk_text.ended ends row.pair.writer) text (decimal c.row_from-first.result)) (end_is ends row.pair.reader _ _ reader.ensures.guid reader.ensures.end)
    ∙ ap (λ number. old ++ names (talk_text.ended ends row.pair.writer) (talk_text.ended ends row.pair.reader) number) (ap decimal c.row_from-first.ensures ∙ sym (append-nil (decimal first))))
    (c.in_ok-push_left.ensures ∙ ap (λ left. string_bytes c.write.new.self ++ check_text.left_text times left) c.left_at.ensures))
    last
