use denote.Shadow.{shadow}
use denote.Text.{Utf8}
use Rattle.std.proofs.Common.{◌≡◌, ◌++◌, ℕ, List}
use Rattle.std.specs.Fmt.{HasWritten, IsPlainFormatter}
use Rattle.std.specs.List.{join_by}
use Rattle.std.specs.Prelude.{codes}
use Rattle.rtps_lines.specs.PolicyValues as policy_values
use Rattle.rtps_lines.proofs.JoinLemmas.{to_come}
use Rattle.rtps_lines.proofs.policy_values.write_ids.Given as goal

-- what is written, and then what is still to come
abbrev pub invariant-loop-id : goal.invariant-loop-id
invariant-loop-id g l =
    (goal.iterator-loop-id g).can_next l.id-iterator × (goal.iterator-loop-id g).is_finite l.id-iterator
    × shadow (Utf8 l.comma)
    × (IsPlainFormatter l.initial.f
    → (written : List ℕ) × HasWritten g.W.Write.write_str_gives l.initial.f written l.f × (written ++ to_come policy_values.id_text l.comma l.id-iterator ≡ join_by policy_values.id_text (codes ", ") l.fn.ids))
