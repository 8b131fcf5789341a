use Rattle.std.proofs.Common.{◌≡◌, ◌++◌, None, length, map, option_copied, string_bytes}
use Rattle.std.specs.Vec.Iter.{into_iter_items, into_iter_len}
use Rattle.rtps_policies.specs.Unmatched as unmatched
use Rattle.rtps_report.specs.Talk as talk
use Rattle.rtps_check.specs.TalkText as talk_text
use Rattle.rtps_check.proofs.unmatched_block.push_pairs.Given as goal

-- the lines of those that are left make the text whole
abbrev pub invariant-loop-one : goal.invariant-loop-one
invariant-loop-one l =
    (into_iter_len l.one-iterator ≡ length (into_iter_items l.one-iterator))
    × (string_bytes l.text ++ talk_text.unmatched_pairs (talk.talk_value l.talk).ends (option_copied l.before) (map (λ one. unmatched.unmatched_value one.now) (into_iter_items l.one-iterator))
    ≡ string_bytes l.initial.text ++ talk_text.unmatched_pairs (talk.talk_value l.talk).ends None (map (λ one. unmatched.unmatched_value one.now) l.fn.sorted.items))
