use Rattle.rtps_who.specs.Texts as texts
use Rattle.rtps_who.proofs.ItemLemmas.{RestIs}
use Rattle.rtps_who.proofs.properties.are_properties.Given as goal

-- so many properties are passed
abbrev pub invariant-loop : goal.invariant-loop
invariant-loop l = RestIs (texts.front_property l.order) l.count l.counter l.octets l.rest
