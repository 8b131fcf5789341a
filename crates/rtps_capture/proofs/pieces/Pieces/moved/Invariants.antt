use Rattle.std.proofs.Common.{length}
use Rattle.rtps_capture.proofs.MovedLemmas.{PutSo}
use Rattle.rtps_capture.proofs.pieces.Pieces.moved.Given as goal

-- the pieces so far were put elsewhere
abbrev pub invariant-pieces : goal.invariant-pieces
invariant-pieces l = PutSo l.from l.initial.to.items l.to.items l.fn.self l.moved l.left.items

abbrev pub decreases-pieces : goal.decreases-pieces
decreases-pieces l = length l.left.items
