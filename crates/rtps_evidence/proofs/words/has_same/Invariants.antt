use Rattle.std.proofs.Common.{◌≡◌, map, take, false}
use Rattle.std.specs.List.{list_any}
use Rattle.rtps_audit.specs.Placed as placed
use Rattle.rtps_evidence.specs.WayRound as way_round
use Rattle.rtps_evidence.proofs.words.has_same.Given as goal

-- none so far is the same
abbrev pub invariant-loop-one : goal.invariant-loop-one
invariant-loop-one l = list_any (way_round.is_same (placed.placed_value l.placed)) (map placed.placed_value (take l.one-index l.shelf)) ≡ false
