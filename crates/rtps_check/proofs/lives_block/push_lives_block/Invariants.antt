use Rattle.std.proofs.Common.{◌≡◌, ◌++◌, flat_map, string_bytes, take}
use Rattle.rtps_report.specs.Talk as talk
use Rattle.rtps_check.specs.DiscoveryText as discovery_text
use Rattle.rtps_check.proofs.lives_block.push_lives_block.Given as goal

-- the lines of those so far
abbrev pub invariant-loop-one : goal.invariant-loop-one
invariant-loop-one l =
    string_bytes l.text ≡ string_bytes l.initial.text ++ flat_map (discovery_text.lives_line l.times (talk.talk_value l.talk)) (take l.one-index l.one-items)
