use Rattle.std.proofs.Common.{◌≡◌, ◌∙◌, List, ap, map, subst}
use Rattle.std.specs.Result.{IfOk}
use Rattle.std.specs.String.{string_bytes}
use Rattle.rtps_evidence.specs.Explanation as explanation
use Rattle.rtps_lines.specs.Notes as notes
use Rattle.rtps_lines.proofs.side_notes.alone_names.Goals as goal

pub returns : goal.returns
returns c =
    subst (λ (rows : List explanation.ExplanationValue). IfOk c.names_if.result (λ names. string_bytes names ≡ notes.names_if c.args.told.named rows))
    (ap (map explanation.explanation_value) c.deref.ensures.value ∙ c.in_ok-alone.ensures) c.names_if.ensures
