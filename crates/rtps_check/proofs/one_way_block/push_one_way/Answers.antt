use Rattle.std.proofs.Common.{◌≡◌, ◌++◌, ◌∷◌, [], ◌∙◌, ℕ, List, ap, codes, string_bytes}
use Rattle.std.proofs.lemmas.Result.{on_ok_weaker}
use Rattle.std.specs.List.{concat}
use Rattle.rtps_report.specs.Ends as ends_spec
use Rattle.rtps_lines.specs.EndText as end_text
use Rattle.rtps_lines.proofs.Offered.{two_parts}
use Rattle.rtps_parts.specs.Parts as parts
use Rattle.rtps_policies.specs.Announcing as announcing
use Rattle.rtps_report.specs.Talk as talk
use Rattle.rtps_check.specs.TalkText as talk_text
use Rattle.rtps_check.proofs.EndLemmas.{end_is}
use Rattle.rtps_check.proofs.OneWayLemmas.{parts_behind}
use Rattle.rtps_check.proofs.one_way_block.push_one_way.Goals as goal

pub returns : goal.returns
returns c =
    let one = c.args.one in
    let ends = (talk.talk_value c.args.talk.now).ends in
    let old = string_bytes c.args.text.now in
    let dest = talk_text.ended ends (announcing.participant_of one.naming.dest) in
    let source = talk_text.ended ends (announcing.participant_of one.naming.source) in
    let names : List ℕ → List ℕ → List ℕ =
    λ silent talking. codes "  participant " ++ (silent ++ (codes " never answers\n  participant " ++ (talking ++ codes ", which names it in "))) in
    let count : ℕ → List ℕ = λ number.
    concat (parts.amount number (record { one = codes "datagram"; many = codes "datagrams" }) ∷ codes "\n" ∷ []) in
    let silent = c.end_by-silent in
    let talking = c.end_by-talking in
    let last = end_text.end_text talking.result.0 (ends_spec.end_value talking.result.1) in
    let named : string_bytes c.write.new.self ≡ old ++ names (end_text.end_text silent.result.0 (ends_spec.end_value silent.result.1)) last = c.in_ok-write.ensures.bytes in
    on_ok_weaker c.render.result
    (λ counted. two_parts old (names dest source) (count one.count)
    (named
    ∙ ap (λ text. old ++ names text last) (end_is ends c.participant_of.result _ _ silent.ensures.guid silent.ensures.end ∙ ap (talk_text.ended ends) c.participant_of.ensures)
    ∙ ap (λ text. old ++ names dest text) (end_is ends c.participant_of-2.result _ _ talking.ensures.guid talking.ensures.end ∙ ap (talk_text.ended ends) c.participant_of-2.ensures))
    (counted ∙ ap (λ number. string_bytes c.write.new.self ++ count number) c.from.ensures)
    ∙ ap (λ text. old ++ text) (parts_behind (codes "  participant ") dest (codes " never answers\n  participant ") source (codes ", which names it in ") (count one.count)))
    c.render.ensures
