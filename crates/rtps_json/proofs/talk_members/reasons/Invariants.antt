use Rattle.std.proofs.Common.{◌≡◌, map, take}
use Rattle.json.specs.Json.{string}
use Rattle.rtps_policies.specs.PolicyText.{policy_name}
use Rattle.rtps_json.specs.Values.{items_json}
use Rattle.rtps_json.proofs.talk_members.reasons.Given as goal

abbrev pub invariant-loop-policy : goal.invariant-loop-policy
invariant-loop-policy l = items_json l.values.items ≡ map (λ policy. string (policy_name policy)) (take l.policy-index l.policies)
