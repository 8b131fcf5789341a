use Rattle.std.proofs.Common.{◌≡◌, ◌++◌, take}
use Rattle.std.specs.List.{flat_map}
use Rattle.std.specs.Prelude.{codes}
use Rattle.std.specs.String.{string_bytes}
use Rattle.rtps_lines.specs.PolicyValues as policy_values
use Rattle.rtps_lines.proofs.talk_notes.push_policies.Given as goal

abbrev pub invariant-loop-other : goal.invariant-loop-other
invariant-loop-other l =
    string_bytes l.text ≡ string_bytes l.initial.text ++ flat_map (λ other. codes ", " ++ policy_values.policy_words other) (take l.other-index l.others)
