use Rattle.std.proofs.Common.{◌≡◌}
use Rattle.rtps_params.specs.Reading as reading
use Rattle.rtps_params.proofs.list.ParamList.first.Given as goal

-- the value is still to come
abbrev pub invariant-loop-found : goal.invariant-loop-found
invariant-loop-found l =
    (goal.iterator-loop-found).can_next l.found-iterator ×
    (goal.iterator-loop-found).is_finite l.found-iterator × (reading.first_value l.pid l.found-iterator ≡ reading.first_value l.pid (reading.pairs_of l.self.order l.self.octets.now))
