use Rattle.std.proofs.Common.{◌∙◌, [], ◌∷◌, ap, unwrap_or}
use Rattle.std.specs.Prelude.{option_and_then}
use Rattle.rtps_policies.specs.Sequences as sequences
use Rattle.rtps_policies.specs.Views as views
use Rattle.rtps_policies.proofs.TextLemmas.{names_or, unnamed}
use Rattle.rtps_policies.proofs.policies.partition_in.Goals as goal

pub returns-in_default : goal.returns-in_default
returns-in_default c = unnamed ∙ ap (λ value. unwrap_or (option_and_then (sequences.partition_of c.args.list.now.order) value) ([] ∷ [])) c.in_default.ensures.value

pub returns : goal.returns
returns c =
    ap views.partition_value c.unwrap_or.ensures ∙ names_or c.read.result _ unnamed
    ∙ ap (λ names. unwrap_or names ([] ∷ [])) (c.read.ensures ∙ ap (λ order. sequences.partition_of order c.in-Some.value.now) c.order.ensures)
    ∙ ap (λ value. unwrap_or (option_and_then (sequences.partition_of c.args.list.now.order) value) ([] ∷ [])) c.in-Some.ensures.value
