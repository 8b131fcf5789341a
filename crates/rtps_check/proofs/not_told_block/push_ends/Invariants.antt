use Rattle.std.proofs.Common.{◌≡◌, ◌++◌, flat_map, map, string_bytes, take}
use Rattle.rtps_report.specs.NotTold as not_told
use Rattle.rtps_report.specs.Talk as talk
use Rattle.rtps_check.specs.DiscoveryText as discovery_text
use Rattle.rtps_check.proofs.not_told_block.push_ends.Given as goal

-- the lines of the ends so far
abbrev pub invariant-loop-end : goal.invariant-loop-end
invariant-loop-end l =
    string_bytes l.text
    ≡ string_bytes l.initial.text ++ flat_map (discovery_text.end_line (talk.talk_value l.talk) (not_told.not_told_value l.one) l.side) (map not_told.topic_end_value (take l.end-index l.ends))
