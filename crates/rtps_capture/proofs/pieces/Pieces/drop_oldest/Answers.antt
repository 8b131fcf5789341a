use Rattle.std.proofs.Common.{List, subst}
use Rattle.rtps_capture.specs.Pieces as pieces_spec
use Rattle.rtps_capture.specs.declared.pieces.Piece.{Piece}
use Rattle.rtps_capture.proofs.KeptLemmas.{dropped}
use Rattle.rtps_capture.proofs.pieces.Pieces.drop_oldest.Goals as goal

pub overflow_sub-self : goal.overflow_sub-self
overflow_sub-self c =
    let pieces = c.self.inside in
    (dropped c.in-Some.oldest c.pop_front.new.self.items pieces.by_place c.remove.new.self pieces.held
    (subst (λ (l : List Piece). pieces_spec.AreKept l pieces.by_place pieces.held) c.in-Some.ensures.items c.self.invariant) c.remove.ensures.entries).ordered

pub overflow_sub-self-in-Some : goal.overflow_sub-self-in-Some
overflow_sub-self-in-Some c =
    let pieces = c.self.inside in
    (dropped c.in-Some.oldest c.pop_front.new.self.items pieces.by_place c.remove.new.self pieces.held
    (subst (λ (l : List Piece). pieces_spec.AreKept l pieces.by_place pieces.held) c.in-Some.ensures.items c.self.invariant) c.remove.ensures.entries).within

pub invariant_of-self : goal.invariant_of-self
invariant_of-self c =
    let pieces = c.self.inside in
    (dropped c.in-Some.oldest c.pop_front.new.self.items pieces.by_place c.remove.new.self pieces.held
    (subst (λ (l : List Piece). pieces_spec.AreKept l pieces.by_place pieces.held) c.in-Some.ensures.items c.self.invariant) c.remove.ensures.entries).kept
