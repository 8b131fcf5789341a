use denote.Shadow.{shadow}
use denote.Text.{Utf8}
use Rattle.std.proofs.Common.{◌≡◌, ◌++◌, ℕ, List}
use Rattle.std.specs.Fmt.{HasWritten, IsPlainFormatter}
use Rattle.std.specs.List.{join_by}
use Rattle.std.specs.Prelude.{codes}
use Rattle.rtps_parts.specs.Names as names
use Rattle.rtps_lines.proofs.JoinLemmas.{to_come}
use Rattle.rtps_lines.proofs.policy_values.write_partitions.Given as goal

-- what is written, and then what is still to come
abbrev pub invariant-loop-name : goal.invariant-loop-name
invariant-loop-name g l =
    (goal.iterator-loop-name g).can_next l.name-iterator × (goal.iterator-loop-name g).is_finite l.name-iterator
    × shadow (Utf8 l.comma)
    × (IsPlainFormatter l.initial.f
    → (written : List ℕ) × HasWritten g.W.Write.write_str_gives l.initial.f written l.f × (written ++ to_come names.name_text l.comma l.name-iterator ≡ join_by names.name_text (codes ", ") l.fn.names))
