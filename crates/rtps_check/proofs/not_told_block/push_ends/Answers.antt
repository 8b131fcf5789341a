use Rattle.std.proofs.Common.{string_bytes}
use Rattle.rtps_report.specs.NotTold as not_told
use Rattle.rtps_report.specs.Talk as talk
use Rattle.rtps_check.specs.DiscoveryText as discovery_text
use Rattle.rtps_check.proofs.DiscoveryLemmas.{values_more}
use Rattle.rtps_check.proofs.not_told_block.push_ends.Goals as goal

pub loop-end-preserved : goal.loop-end-preserved
loop-end-preserved c =
    values_more (discovery_text.end_line (talk.talk_value c.args.by.1.now) (not_told.not_told_value c.args.one.now) c.args.side.now) not_told.topic_end_value c.args.by.0.now c.loop-end.end-index _ (string_bytes c.args.text.now)
    (string_bytes c.loop-end.text) (string_bytes c.push_end.new.text) c.loop-end-test.true c.loop-end.invariant c.in_ok-push_end.ensures
