use Rattle.std.proofs.Common.{◌≡◌, filter, take}
use Rattle.rtps_discovery.specs.Offers as offers
use Rattle.rtps_discovery.proofs.offers.readers_within.Given as goal

-- those so far
abbrev pub invariant-loop-reader : goal.invariant-loop-reader
invariant-loop-reader l = l.list.items ≡ filter (offers.asks_within l.offer) (take l.reader-index l.readers)
