use Rattle.std.proofs.Common.{◌≡◌, ℕ, ◌<◌, ◌||◌, nat_eq}
use Rattle.std.specs.List.{list_any}
use Rattle.rtps_coverage.specs.Stretches as stretches
use Rattle.rtps_known.specs.declared.layout.TheConstants as layout
use Rattle.rtps_known.proofs.lacking.mark_ended.Given as goal

-- those appended, or among what is left
abbrev pub invariant-loop-number : goal.invariant-loop-number
invariant-loop-number l =
    (n : ℕ) → n < layout.END → (stretches.stretches_have l.marked.items n || list_any (nat_eq n) l.number-iterator) ≡ (stretches.stretches_have l.initial.marked.items n || list_any (nat_eq n) l.ended.keys)
