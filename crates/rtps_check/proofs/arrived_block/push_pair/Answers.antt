use Rattle.std.proofs.Common.{◌++◌, ◌∙◌, ap, ap₂, codes, string_bytes}
use Rattle.std.proofs.lemmas.Result.{on_ok_weaker}
use Rattle.rtps_check.proofs.AppendLemmas.{appended}
use Rattle.rtps_evidence.specs.FirstNumbers as first_numbers
use Rattle.rtps_report.specs.BestEfforts as best_efforts
use Rattle.rtps_report.specs.Talk as talk
use Rattle.rtps_lines.proofs.Offered.{four_parts}
use Rattle.rtps_check.specs.ArrivedText as arrived_text
use Rattle.rtps_check.proofs.arrived_block.push_pair.Goals as goal

pub returns : goal.returns
returns c =
    let ends = (talk.talk_value c.args.talk.now).ends in
    let one = best_efforts.held_value c.args.one.now in
    on_ok_weaker c.push_str.result
    (λ last. four_parts (string_bytes c.args.text.now) (arrived_text.two_lines ends one.pair) (arrived_text.arrived_share one) (arrived_text.listed (first_numbers.numbers_of one.arrived.lacking) (arrived_text.lost_of one)) (codes "\n") c.in_ok-push_two.ensures
    (c.in_ok-render.ensures ∙ ap (λ share. string_bytes c.push_two.new.text ++ share) c.arrived_share.ensures)
    (c.in_ok-push_listed.ensures ∙ ap (λ list. string_bytes c.render.new.text ++ list) (ap₂ arrived_text.listed c.as_slice-first.ensures (c.from.ensures ∙ c.lost_of.ensures))) last)
    (appended c.push_str.result (string_bytes c.push_listed.new.text) (codes "\n") (string_bytes c.push_str.new.self) c.push_str.ensures.bytes)
