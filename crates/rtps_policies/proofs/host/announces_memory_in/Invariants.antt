use Rattle.std.proofs.Common.{◌≡◌}
use Rattle.std.specs.List.{list_any}
use Rattle.rtps_params.specs.Reading as reading
use Rattle.rtps_policies.specs.Hosts as hosts
use Rattle.rtps_policies.proofs.host.announces_memory_in.Given as goal

-- whether any of those that are still to come does so, where none before did
abbrev pub invariant-loop-pid : goal.invariant-loop-pid
invariant-loop-pid l =
    (goal.iterator-loop-pid).can_next l.pid-iterator × (goal.iterator-loop-pid).is_finite l.pid-iterator
    × (list_any (hosts.announces_memory l.list.order) l.pid-iterator ≡ list_any (hosts.announces_memory l.list.order) (reading.pairs_of l.list.order l.list.octets.now))
