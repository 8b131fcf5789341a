use Rattle.std.proofs.Common.{◌≡◌, ◌++◌, filter, map}
use Rattle.std.specs.BTreeMap.{values}
use Rattle.rtps_discovery.proofs.kept.push_settled.Given as goal

-- those found, and then those among what is left
abbrev pub invariant-loop-kept : goal.invariant-loop-kept
invariant-loop-kept l =
    l.found.items ++ map (λ kept. kept.endpoint) (filter (λ kept. kept.settled) l.kept-iterator) ≡ l.fn.found.items ++ map (λ kept. kept.endpoint) (filter (λ kept. kept.settled) (values l.endpoints))
