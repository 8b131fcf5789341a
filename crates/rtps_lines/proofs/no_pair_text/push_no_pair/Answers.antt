use Rattle.std.proofs.Common.{◌++◌, ◌∙◌, ap, map, sym}
use Rattle.std.proofs.lemmas.Result.{on_ok_weaker}
use Rattle.std.specs.String.{string_bytes}
use Rattle.rtps_report.specs.OneSides as one_sides
use Rattle.rtps_report.specs.Talk as talk
use Rattle.rtps_report.specs.declared.no_pair.NoPair.{NoPair}
use Rattle.rtps_lines.specs.NoPairText as no_pair_text
use Rattle.rtps_lines.proofs.no_pair_text.push_no_pair.Goals as goal

pub returns-in-Early : goal.returns-in-Early
returns-in-Early c =
    let sides = map one_sides.one_sided_value c.args.why.now.one_sides.items in
    on_ok_weaker c.push_early.result
    (λ text. text ∙ ap (λ (cause : NoPair). string_bytes c.args.text.now ++ no_pair_text.no_pair_text (talk.talk_value c.args.talk.now) cause sides) (sym c.in-Early.is)) c.push_early.ensures

pub returns-in-TwoDomains : goal.returns-in-TwoDomains
returns-in-TwoDomains c =
    let sides = map one_sides.one_sided_value c.args.why.now.one_sides.items in
    on_ok_weaker c.push_domains.result
    (λ text. text ∙ ap (λ (cause : NoPair). string_bytes c.args.text.now ++ no_pair_text.no_pair_text (talk.talk_value c.args.talk.now) cause sides) (sym c.in-TwoDomains.is)) c.push_domains.ensures
