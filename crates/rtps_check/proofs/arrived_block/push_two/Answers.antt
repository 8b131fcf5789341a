use Rattle.std.proofs.Common.{◌++◌, ◌∙◌, ap, string_bytes}
use Rattle.std.proofs.lemmas.Result.{on_ok_weaker}
use Rattle.rtps_report.specs.Ends as ends_spec
use Rattle.rtps_report.specs.Talk as talk
use Rattle.rtps_check.proofs.EndLemmas.{two_are}
use Rattle.rtps_check.proofs.arrived_block.push_two.Goals as goal

pub returns : goal.returns
returns c =
    let ends = (talk.talk_value c.args.talk.now).ends in
    let old = string_bytes c.args.text.now in
    let pair = c.args.pair in
    let writer = c.end_by-writer in
    let reader = c.end_by-reader in
    on_ok_weaker c.write.result
    (λ told. told ∙ ap (λ text. old ++ text) (two_are ends pair.writer pair.reader writer.result.0 reader.result.0 (ends_spec.end_value writer.result.1) (ends_spec.end_value reader.result.1)
    writer.ensures.guid writer.ensures.end reader.ensures.guid reader.ensures.end))
    c.write.ensures.bytes
