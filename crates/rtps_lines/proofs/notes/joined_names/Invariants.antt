use Rattle.std.proofs.Common.{◌≡◌, ◌++◌, ◌∷◌, [], map, take}
use Rattle.std.specs.List.{flat_map}
use Rattle.std.specs.String.{string_bytes}
use Rattle.rtps_evidence.specs.Explanation as explanation
use Rattle.rtps_lines.specs.Notes as notes
use Rattle.rtps_lines.proofs.notes.joined_names.Given as goal

abbrev pub invariant-loop-other : goal.invariant-loop-other
invariant-loop-other l =
    string_bytes l.names
    ≡ string_bytes l.initial.names ++ flat_map (λ topic. (44 ∷ 32 ∷ []) ++ notes.topic_name topic) (map (λ topic. map explanation.explanation_value topic.now) (take l.other-index l.others))
