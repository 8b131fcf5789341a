use Rattle.std.proofs.Common.{◌∙◌, ◌++◌, List, ap}
use Rattle.rtps_capture.specs.Pieces as pieces_spec
use Rattle.rtps_capture.specs.declared.pieces.Piece.{Piece}
use Rattle.rtps_capture.proofs.KeptLemmas.{values_are}
use Rattle.rtps_capture.proofs.pieces.Pieces.append_to.Goals as goal

pub loop-piece-init : goal.loop-piece-init
loop-piece-init c =
    let pieces = c.self.inside in
    let all = c.into_iter-piece-iterator.ensures.into_iter_gives ∙ c.values-piece-items.ensures.rest ∙ values_are pieces.came.items pieces.by_place pieces.held c.self.invariant
    ∙ ap pieces_spec.in_order c.self.view_is in
    ap (λ (l : List Piece). c.args.out.now.items ++ pieces_spec.joined c.args.file.now l) all
