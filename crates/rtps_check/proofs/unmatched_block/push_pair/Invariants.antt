use Rattle.std.proofs.Common.{◌≡◌, ◌++◌, take, flat_map, string_bytes}
use Rattle.rtps_policies.specs.Unmatched as unmatched
use Rattle.rtps_check.specs.TalkText as talk_text
use Rattle.rtps_check.proofs.unmatched_block.push_pair.Given as goal

-- the lines of the policies so far
abbrev pub invariant-loop-policy : goal.invariant-loop-policy
invariant-loop-policy l = string_bytes l.text ≡ string_bytes l.initial.text ++ flat_map (talk_text.policy_line (unmatched.unmatched_value l.one)) (take l.policy-index l.policy-items)
