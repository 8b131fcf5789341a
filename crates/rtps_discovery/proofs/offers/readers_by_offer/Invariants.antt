use Rattle.std.proofs.Common.{◌≡◌, length}
use Rattle.rtps_discovery.specs.Offers as offers
use Rattle.rtps_discovery.proofs.offers.readers_by_offer.Given as goal

-- a list for each offer so far
abbrev pub invariant-loop-offer : goal.invariant-loop-offer
invariant-loop-offer l = (length l.lists.items ≡ l.offer) × offers.AreWithin l.endpoints l.readers l.lists.items
