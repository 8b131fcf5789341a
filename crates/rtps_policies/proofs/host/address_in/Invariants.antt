use Rattle.std.proofs.Common.{◌≡◌, None}
use Rattle.rtps_params.specs.Reading as reading
use Rattle.rtps_policies.specs.Hosts as hosts
use Rattle.rtps_policies.proofs.HostLemmas.{best_with}
use Rattle.rtps_policies.proofs.host.address_in.Given as goal

-- the best of those that are still to come and what was found
abbrev pub invariant-loop-pid : goal.invariant-loop-pid
invariant-loop-pid l =
    (goal.iterator-loop-pid).can_next l.pid-iterator × (goal.iterator-loop-pid).is_finite l.pid-iterator
    × (best_with l.found (hosts.addresses_in l.list.order l.pid-iterator) ≡ best_with None (hosts.addresses_in l.list.order (reading.pairs_of l.list.order l.list.octets.now)))
