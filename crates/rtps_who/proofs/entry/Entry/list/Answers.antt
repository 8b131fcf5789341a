use Rattle.std.proofs.lemmas.Result.{on_ok_weaker}
use Rattle.rtps_who.specs.Listings as listings
use Rattle.rtps_who.specs.Samples as samples
use Rattle.rtps_who.proofs.ListingLemmas.{lists_behind}
use Rattle.rtps_who.proofs.entry.Entry.list.Goals as goal

pub returns : goal.returns
returns c =
    let entry = c.args.self.now in
    let node = samples.node_value entry.node in
    on_ok_weaker c.list-2.result
    (λ last. lists_behind c.args.listed.now.entries c.list.new.listed.entries c.list-2.new.listed.entries (listings.listings_of c.args.prefix node (samples.gids_value entry.readers))
    (listings.listings_of c.args.prefix node (samples.gids_value entry.writers)) c.in_ok-list.ensures last)
    c.list-2.ensures
