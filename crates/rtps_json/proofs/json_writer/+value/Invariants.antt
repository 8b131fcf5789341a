use Rattle.std.proofs.Common.{◌≡◌, ◌++◌, drop}
use Rattle.json.specs.Tree.{items_tokens}
use Rattle.rtps_json.specs.JsonText.{items_of, tokens_of}
use Rattle.rtps_json.specs.Values.{items_json, members_json}
use Rattle.rtps_json.proofs.json_writer.+value.Given as goal

abbrev pub invariant-push_array-loop-value : goal.invariant-push_array-loop-value
invariant-push_array-loop-value l =
    (l.writer.tokens ++ items_tokens (items_of (items_json (drop l.value-index l.value-items))) ≡ l.initial.writer.tokens ++ items_tokens (items_of (items_json l.value-items)))
    × (l.writer.before ≡ l.initial.writer.before)

abbrev pub invariant-push_members-loop-member : goal.invariant-push_members-loop-member
invariant-push_members-loop-member l =
    (l.writer.tokens ++ tokens_of (members_json (drop l.member-index l.member-items)) ≡ l.initial.writer.tokens ++ tokens_of (members_json l.member-items))
    × (l.writer.before ≡ l.initial.writer.before)
