use Rattle.std.specs.List.{flat_map}
use Rattle.rtps_who.specs.Listings as listings
use Rattle.rtps_who.specs.Samples as samples
use Rattle.rtps_who.proofs.ListingLemmas.{ListsAll}
use Rattle.rtps_who.proofs.sample.Sample.list.Given as goal

-- the nodes that are passed list theirs
abbrev pub invariant-loop : goal.invariant-loop
invariant-loop l =
    ListsAll (flat_map (listings.listings_by l.prefix)) (samples.front_entry l.self.order l.self.width) l.self.count l.counter l.self.octets.now l.rest l.initial.listed.entries l.listed.entries
