use Rattle.std.proofs.Common.{◌≡◌, List, take}
use Rattle.std.specs.BTreeMap.{get}
use Rattle.rtps_discovery.specs.Listings as listings
use Rattle.rtps_discovery.specs.declared.matching.Pair.{Pair}
use Rattle.rtps_known.specs.Matched as matched
use Rattle.rtps_known.specs.Places as places
use Rattle.rtps_report.specs.Talk as talk
use Rattle.rtps_report.proofs.late_matches.late_among.Given as goal

-- those of the pairs so far
abbrev pub invariant-loop-pair : goal.invariant-loop-pair
invariant-loop-pair l =
    (acts : List places.PlacedAct) → matched.AreMatchesOf acts l.matches → (pair : Pair) → get listings.pair_cmp l.late pair ≡ talk.late_among acts l.lives (take l.pair-index l.pairs) pair
