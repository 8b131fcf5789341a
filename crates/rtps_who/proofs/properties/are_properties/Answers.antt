use Rattle.std.proofs.Common.{ap, arith, sym}
use Rattle.std.specs.Option.{is_some}
use Rattle.rtps_who.specs.Texts as texts
use Rattle.rtps_who.specs.Views as views
use Rattle.rtps_who.proofs.ItemLemmas.{rest_all, rest_cut, rest_more}
use Rattle.rtps_who.proofs.properties.are_properties.Goals as goal

pub loop-preserved : goal.loop-preserved
loop-preserved c =
    rest_more (texts.front_property c.args.order) c.args.count c.loop.counter c.args.octets.now c.loop.rest.now (views.property_value c.in-Some.field-0-0, c.in-Some.behind.now) (omega arith) c.in-Some.ensures c.loop.invariant

pub returns-in_default : goal.returns-in_default
returns-in_default c = sym (ap is_some (rest_cut (texts.front_property c.args.order) c.args.count c.loop.counter c.args.octets.now c.loop.rest.now (omega arith) c.in_default.ensures c.loop.invariant))

pub returns : goal.returns
returns c = sym (ap is_some (rest_all (texts.front_property c.args.order) c.args.count c.loop.counter c.args.octets.now c.loop.rest.now (omega arith) c.loop.invariant))
