use Rattle.std.proofs.Common.{◌≡◌, map, take}
use Rattle.json.specs.Json.{string}
use Rattle.rtps_lines.specs.PolicyValues.{value_text}
use Rattle.rtps_lines.specs.declared.policy_values.NameStyle.TheVariants.{Dds}
use Rattle.rtps_policies.specs.Fitting.{profile_value}
use Rattle.rtps_json.specs.Values.{items_json}
use Rattle.rtps_json.proofs.talk_members.policy_values.Given as goal

abbrev pub invariant-loop-policy : goal.invariant-loop-policy
invariant-loop-policy l = items_json l.values.items ≡ map (λ policy. string (value_text Dds policy (profile_value l.profile))) (take l.policy-index l.policies)
