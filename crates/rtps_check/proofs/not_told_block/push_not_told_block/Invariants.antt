use Rattle.std.proofs.Common.{◌≡◌, ◌++◌, flat_map, map, string_bytes, take}
use Rattle.rtps_report.specs.NotTold as not_told
use Rattle.rtps_report.specs.Talk as talk
use Rattle.rtps_check.specs.DiscoveryText as discovery_text
use Rattle.rtps_check.proofs.not_told_block.push_not_told_block.Given as goal

-- the lines of those so far
abbrev pub invariant-loop-one : goal.invariant-loop-one
invariant-loop-one l =
    string_bytes l.text ≡ string_bytes l.initial.text ++ flat_map (discovery_text.not_told_lines (talk.talk_value l.talk)) (map not_told.not_told_value (take l.one-index l.one-items))
