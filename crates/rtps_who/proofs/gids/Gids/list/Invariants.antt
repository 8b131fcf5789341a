use Rattle.rtps_who.specs.Listings as listings
use Rattle.rtps_who.specs.Samples as samples
use Rattle.rtps_who.proofs.ListingLemmas.{ListsAll}
use Rattle.rtps_who.proofs.gids.Gids.list.Given as goal

-- the gids that are passed are listed
abbrev pub invariant-loop : goal.invariant-loop
invariant-loop l = ListsAll (listings.listings_of l.prefix (samples.node_value l.node)) (samples.front_gid l.self.width) l.self.count l.counter l.self.octets.now l.rest l.initial.listed.entries l.listed.entries
