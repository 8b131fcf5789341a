use Rattle.rtps_who.specs.Samples as samples
use Rattle.rtps_who.proofs.ItemLemmas.{RestIs}
use Rattle.rtps_who.proofs.sample.behind_entries.Given as goal

-- so many nodes are passed
abbrev pub invariant-loop : goal.invariant-loop
invariant-loop l = RestIs (samples.front_entry l.order l.width) l.count l.counter l.octets l.rest
