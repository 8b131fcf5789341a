use Rattle.std.proofs.Common.{◌≡◌, ap, arith, false, sym, true}
use Rattle.std.specs.Option.{option_map}
use Rattle.rtps_who.specs.Texts as texts
use Rattle.rtps_who.specs.Views as views
use Rattle.rtps_who.proofs.ItemLemmas.{find_here, find_more}
use Rattle.rtps_who.proofs.properties.Properties.get.Goals as goal

pub returns-then-eq : goal.returns-then-eq
returns-then-eq c =
    let named : texts.is_named c.args.name.now (views.property_value c.in_ok-property.property) ≡ true = cc (c.if-eq.ensures) in
    sym (ap (option_map (λ property. property.value))
    (find_here (texts.is_named c.args.name.now) (texts.front_property c.args.self.now.order) c.args.self.now.count c.loop.counter c.args.self.now.octets.now c.loop.rest.now
    (views.property_value c.in_ok-property.property, c.in_ok-property.behind.now) (omega arith) c.in_ok-property.ensures named c.loop.invariant))

pub loop-preserved : goal.loop-preserved
loop-preserved c =
    let other : texts.is_named c.args.name.now (views.property_value c.in_ok-property.property) ≡ false = cc (c.if-eq.ensures) in
    find_more (texts.is_named c.args.name.now) (texts.front_property c.args.self.now.order) c.args.self.now.count c.loop.counter c.args.self.now.octets.now c.loop.rest.now
    (views.property_value c.in_ok-property.property, c.in_ok-property.behind.now) (omega arith) c.in_ok-property.ensures other c.loop.invariant
