use Rattle.std.proofs.Common.{string_bytes}
use Rattle.std.proofs.lemmas.Result.{on_ok_weaker}
use Rattle.rtps_lines.proofs.Offered.{three_parts}
use Rattle.rtps_check.specs.CheckText as check_text
use Rattle.rtps_check.specs.DiscoveryText as discovery_text
use Rattle.rtps_check.specs.TalkText as talk_text
use Rattle.rtps_check.proofs.checked_text.push_discovery.Goals as goal

pub returns : goal.returns
returns c =
    let beside = check_text.beside_value c.args.told.now in
    on_ok_weaker c.push_one_way_block.result
    (λ last. three_parts (string_bytes c.args.text.now) (discovery_text.not_told_block beside.talk) (discovery_text.lives_block beside.times beside.talk) (talk_text.one_way_block beside.talk) c.in_ok-push_not_told_block.ensures
    c.in_ok-push_lives_block.ensures last)
    c.push_one_way_block.ensures
