use Rattle.std.proofs.Common.{arith, map, refl, sym}
use Rattle.rtps_who.specs.Samples as samples
use Rattle.rtps_who.proofs.ItemLemmas.{mapped_all, mapped_cut, mapped_push}
use Rattle.rtps_who.proofs.sample.Sample.nodes.Goals as goal

pub loop-preserved : goal.loop-preserved
loop-preserved c =
    mapped_push (λ entry. entry.node) samples.node_value (samples.front_entry c.args.self.now.order c.args.self.now.width) c.args.self.now.count c.loop.counter c.args.self.now.octets.now c.loop.rest.now
    (samples.entry_value c.in-Some.entry, c.in-Some.behind.now) c.loop.nodes.items c.push.new.self.items c.in-Some.entry.node (omega arith) c.in-Some.ensures c.in_ok-push.ensures.items refl c.loop.invariant

pub returns-in_default : goal.returns-in_default
returns-in_default c =
    sym (mapped_cut (λ entry. entry.node) (samples.front_entry c.args.self.now.order c.args.self.now.width) c.args.self.now.count c.loop.counter c.args.self.now.octets.now c.loop.rest.now
    (map samples.node_value c.loop.nodes.items) (omega arith) c.in_default.ensures c.loop.invariant)

pub returns : goal.returns
returns c =
    sym (mapped_all (λ entry. entry.node) (samples.front_entry c.args.self.now.order c.args.self.now.width) c.args.self.now.count c.loop.counter c.args.self.now.octets.now c.loop.rest.now
    (map samples.node_value c.loop.nodes.items) (omega arith) c.loop.invariant)
