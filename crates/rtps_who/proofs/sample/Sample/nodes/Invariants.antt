use Rattle.std.proofs.Common.{map}
use Rattle.rtps_who.specs.Samples as samples
use Rattle.rtps_who.proofs.ItemLemmas.{MappedAre}
use Rattle.rtps_who.proofs.sample.Sample.nodes.Given as goal

-- the nodes that are passed are kept
abbrev pub invariant-loop : goal.invariant-loop
invariant-loop l = MappedAre (λ entry. entry.node) (samples.front_entry l.self.order l.self.width) l.self.count l.counter l.self.octets.now l.rest (map samples.node_value l.nodes.items)
