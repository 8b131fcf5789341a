use Rattle.std.proofs.Common.{◌≡◌, length}
use Rattle.rtps_capture.specs.Pieces as pieces
use Rattle.rtps_capture.proofs.pieces.Pieces.join.Given as goal

-- what will be left stays the same
abbrev pub invariant-loop-self : goal.invariant-loop-self
invariant-loop-self l = pieces.left_for l.piece l.self ≡ pieces.left_for l.piece l.initial.self

abbrev pub decreases-loop-self : goal.decreases-loop-self
decreases-loop-self l = length l.self
