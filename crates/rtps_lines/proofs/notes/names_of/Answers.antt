use Rattle.std.proofs.Common.{◌≡◌, ◌∙◌, Bor, List, ap, map, subst}
use Rattle.std.specs.Result.{IfOk}
use Rattle.std.specs.String.{string_bytes}
use Rattle.rtps_evidence.specs.declared.explanation.Explanation.{Explanation}
use Rattle.rtps_evidence.specs.Explanation as explanation
use Rattle.rtps_lines.specs.Notes as notes
use Rattle.rtps_lines.proofs.notes.names_of.Goals as goal

pub returns : goal.returns
returns c =
    let view : Bor (List Explanation) → List explanation.ExplanationValue = λ topic. map explanation.explanation_value topic.now in
    subst (λ topics. IfOk c.joined_names.result (λ names. string_bytes names ≡ notes.joined_names topics))
    (ap (map view) c.deref.ensures.value ∙ c.in_ok-topics.ensures) c.joined_names.ensures
