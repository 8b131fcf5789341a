use Rattle.std.proofs.Common.{◌≡◌, ◌++◌}
use Rattle.rtps_capture.specs.Pieces as pieces
use Rattle.rtps_capture.proofs.pieces.Pieces.append_to.Given as goal

-- with the octets of the pieces to come it has all of them
abbrev pub invariant-loop-piece : goal.invariant-loop-piece
invariant-loop-piece l = l.out.items ++ pieces.joined l.file l.piece-iterator ≡ l.initial.out.items ++ pieces.joined l.file (pieces.in_order l.self)
