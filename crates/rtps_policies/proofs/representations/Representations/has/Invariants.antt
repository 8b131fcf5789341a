use Rattle.std.proofs.Common.{◌≡◌, ◌==◌}
use Rattle.std.specs.List.{list_any}
use Rattle.rtps_policies.specs.Sequences as sequences
use Rattle.rtps_policies.proofs.representations.Representations.has.Given as goal

-- none of the ids so far is this one
abbrev pub invariant-loop-own : goal.invariant-loop-own
invariant-loop-own l =
    (goal.iterator-loop-own).can_next l.own-iterator × (goal.iterator-loop-own).is_finite l.own-iterator
    × (list_any (λ own. own == l.id) l.own-iterator ≡ list_any (λ own. own == l.id) (sequences.ids_in l.self.order l.self.octets.now))
