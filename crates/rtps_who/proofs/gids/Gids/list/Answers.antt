use Rattle.std.proofs.Common.{[], ◌∷◌, arith, refl}
use Rattle.rtps_who.specs.Listings as listings
use Rattle.rtps_who.specs.Samples as samples
use Rattle.rtps_who.proofs.ListingLemmas.{listings_joined, lists_all, lists_cut, lists_more}
use Rattle.rtps_who.proofs.gids.Gids.list.Goals as goal

pub loop-preserved : goal.loop-preserved
loop-preserved c =
    let node = samples.node_value c.args.node in
    lists_more (listings.listings_of c.args.prefix node) (λ guid. listings.listings_of c.args.prefix node (guid ∷ [])) (listings_joined c.args.prefix node) (samples.front_gid c.args.self.now.width) c.args.self.now.count c.loop.counter
    c.args.self.now.octets.now c.loop.rest.now (c.in-Some.guid, c.in-Some.behind.now) c.args.listed.now.entries c.loop.listed.entries c.list_one.new.listed.entries (omega arith) c.in-Some.ensures c.in_ok-list_one.ensures
    c.loop.invariant

pub returns-in_default : goal.returns-in_default
returns-in_default c =
    lists_cut (listings.listings_of c.args.prefix (samples.node_value c.args.node)) refl (samples.front_gid c.args.self.now.width) c.args.self.now.count c.loop.counter c.args.self.now.octets.now c.loop.rest.now
    c.args.listed.now.entries c.loop.listed.entries (omega arith) c.in_default.ensures c.loop.invariant

pub returns : goal.returns
returns c =
    lists_all (listings.listings_of c.args.prefix (samples.node_value c.args.node)) refl (samples.front_gid c.args.self.now.width) c.args.self.now.count c.loop.counter c.args.self.now.octets.now c.loop.rest.now
    c.args.listed.now.entries c.loop.listed.entries (omega arith) c.loop.invariant
