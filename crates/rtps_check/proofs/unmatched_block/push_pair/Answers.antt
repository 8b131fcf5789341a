use Rattle.std.proofs.Common.{◌++◌, ◌∙◌, List, ap, flat_map, string_bytes}
use Rattle.std.proofs.lemmas.List.{take_all}
use Rattle.rtps_policies.specs.Unmatched as unmatched
use Rattle.rtps_policies.specs.declared.fitting.Policy.{Policy}
use Rattle.rtps_report.specs.Ends as ends_spec
use Rattle.rtps_report.specs.Talk as talk
use Rattle.rtps_lines.proofs.Offered.{two_parts}
use Rattle.rtps_check.specs.TalkText as talk_text
use Rattle.rtps_check.proofs.EndLemmas.{two_are, two_told}
use Rattle.rtps_check.proofs.unmatched_block.push_pair.Goals as goal

pub returns : goal.returns
returns c =
    let ends = (talk.talk_value c.args.talk.now).ends in
    let old = string_bytes c.args.text.now in
    let one = unmatched.unmatched_value c.args.one.now in
    let first = one.writer.endpoint.guid in
    let second = one.reader.endpoint.guid in
    let writer = c.end_by-writer in
    let reader = c.end_by-reader in
    let lines = flat_map (talk_text.policy_line one) in
    let all = take_all c.loop-policy.policy-index c.deref-policy-items.result.now c.loop-policy-test.false ∙ c.deref-policy-items.ensures.value in
    two_parts old (two_told (talk_text.ended ends first) (talk_text.ended ends second)) (lines one.reasons)
    (c.in_ok-write.ensures.bytes ∙ ap (λ text. old ++ text) (two_are ends first second writer.result.0 reader.result.0 (ends_spec.end_value writer.result.1) (ends_spec.end_value reader.result.1)
    writer.ensures.guid writer.ensures.end reader.ensures.guid reader.ensures.end))
    (c.loop-policy.invariant ∙ ap (λ (reasons : List Policy). string_bytes c.write.new.self ++ lines reasons) all)
