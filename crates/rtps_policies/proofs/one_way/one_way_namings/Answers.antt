use Rattle.std.proofs.Common.{◌∙◌, ◌++◌, ap, sym}
use Rattle.std.specs.Map.Iter.{deref_pair}
use Rattle.std.proofs.lemmas.Map.Iter.{rest_all}
use Rattle.rtps_policies.specs.OneWays as one_ways
use Rattle.rtps_policies.proofs.OneWayLemmas.{listed}
use Rattle.rtps_policies.proofs.one_way.one_way_namings.Goals as goal

pub returns : goal.returns
returns c = λ traffic announced counted.
    let ended = rest_all deref_pair c.loop-naming.naming-iterator c.next.new.self c.next.result c.in-None.is c.next.ensures.steps in
    listed traffic c.args.namings.now c.loop-naming.found.items counted c.iter-naming-items.ensures.ordered
    (ap (λ l. c.loop-naming.found.items ++ one_ways.one_way_among traffic l) (sym ended) ∙ c.loop-naming.invariant traffic announced counted)
