use Rattle.std.proofs.Common.{◌≡◌, ◌++◌, take, flat_map, string_bytes}
use Rattle.rtps_report.specs.Talk as talk
use Rattle.rtps_check.specs.TalkText as talk_text
use Rattle.rtps_check.proofs.one_way_block.push_one_way_block.Given as goal

-- the lines of those so far
abbrev pub invariant-loop-one : goal.invariant-loop-one
invariant-loop-one l = string_bytes l.text ≡ string_bytes l.initial.text ++ flat_map (talk_text.one_way_lines (talk.talk_value l.talk).ends) (take l.one-index l.one-items)
