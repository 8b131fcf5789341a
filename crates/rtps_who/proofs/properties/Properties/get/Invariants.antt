use Rattle.rtps_who.specs.Texts as texts
use Rattle.rtps_who.proofs.ItemLemmas.{FoundIs}
use Rattle.rtps_who.proofs.properties.Properties.get.Given as goal

-- the properties that are passed have other names
abbrev pub invariant-loop : goal.invariant-loop
invariant-loop l = FoundIs (texts.is_named l.name) (texts.front_property l.self.order) l.self.count l.counter l.self.octets.now l.rest
