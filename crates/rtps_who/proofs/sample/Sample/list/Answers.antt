use Rattle.std.proofs.Common.{arith, refl}
use Rattle.std.specs.List.{flat_map}
use Rattle.rtps_who.specs.Listings as listings
use Rattle.rtps_who.specs.Samples as samples
use Rattle.rtps_who.proofs.ListingLemmas.{lists_all, lists_cut, lists_more}
use Rattle.rtps_who.proofs.sample.Sample.list.Goals as goal

pub loop-preserved : goal.loop-preserved
loop-preserved c =
    lists_more (flat_map (listings.listings_by c.args.prefix)) (listings.listings_by c.args.prefix) (λ entry entries. refl) (samples.front_entry c.args.self.now.order c.args.self.now.width) c.args.self.now.count c.loop.counter
    c.args.self.now.octets.now c.loop.rest.now (samples.entry_value c.in-Some.entry, c.in-Some.behind.now) c.args.listed.now.entries c.loop.listed.entries c.list.new.listed.entries (omega arith) c.in-Some.ensures c.in_ok-list.ensures
    c.loop.invariant

pub returns-in_default : goal.returns-in_default
returns-in_default c =
    lists_cut (flat_map (listings.listings_by c.args.prefix)) refl (samples.front_entry c.args.self.now.order c.args.self.now.width) c.args.self.now.count c.loop.counter c.args.self.now.octets.now c.loop.rest.now
    c.args.listed.now.entries c.loop.listed.entries (omega arith) c.in_default.ensures c.loop.invariant

pub returns : goal.returns
returns c =
    lists_all (flat_map (listings.listings_by c.args.prefix)) refl (samples.front_entry c.args.self.now.order c.args.self.now.width) c.args.self.now.count c.loop.counter c.args.self.now.octets.now c.loop.rest.now
    c.args.listed.now.entries c.loop.listed.entries (omega arith) c.loop.invariant
