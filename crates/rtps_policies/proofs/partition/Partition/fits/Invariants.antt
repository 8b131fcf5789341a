use Rattle.std.proofs.Common.{◌≡◌}
use Rattle.std.specs.List.{list_any}
use Rattle.rtps_policies.specs.NamePatterns as name_patterns
use Rattle.rtps_policies.specs.Sequences as sequences
use Rattle.rtps_policies.specs.Views as views
use Rattle.rtps_policies.proofs.partition.Partition.fits.Given as goal

-- the names so far fit none of the other's
abbrev pub invariant-loop-name : goal.invariant-loop-name
invariant-loop-name l =
    (goal.iterator-loop-name).can_next l.name-iterator × (goal.iterator-loop-name).is_finite l.name-iterator
    × (list_any (λ one. list_any (name_patterns.names_fit one) (views.partition_value l.other)) l.name-iterator
    ≡ list_any (λ one. list_any (name_patterns.names_fit one) (views.partition_value l.other)) (sequences.texts_in l.self.count l.self.order l.self.octets.now))
