use Rattle.std.proofs.Common.{◌≡◌}
use Rattle.std.specs.List.{list_any}
use Rattle.rtps_policies.specs.NamePatterns as name_patterns
use Rattle.rtps_policies.specs.Sequences as sequences
use Rattle.rtps_policies.proofs.partition.has_fitting.Given as goal

-- the names so far do not fit
abbrev pub invariant-loop-other : goal.invariant-loop-other
invariant-loop-other l =
    (goal.iterator-loop-other).can_next l.other-iterator × (goal.iterator-loop-other).is_finite l.other-iterator
    × (list_any (name_patterns.names_fit l.name) l.other-iterator ≡ list_any (name_patterns.names_fit l.name) (sequences.texts_in l.partition.count l.partition.order l.partition.octets.now))
