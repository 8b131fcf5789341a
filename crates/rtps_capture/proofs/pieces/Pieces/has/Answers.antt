use Rattle.std.proofs.Common.{◌∙◌, ap, sym}
use Rattle.std.specs.Option.{option_copied}
use Rattle.rtps_capture.specs.Pieces as pieces_spec
use Rattle.rtps_capture.proofs.PieceLemmas.{any-in_order}
use Rattle.rtps_capture.proofs.FoundLemmas.{get_is, repeat_found, repeat_none}
use Rattle.rtps_capture.proofs.pieces.Pieces.has.Goals as goal

pub returns-in-Some : goal.returns-in-Some
returns-in-Some c =
    let pieces = c.self.inside in
    let file = c.args.file.now in
    let piece = c.args.piece.now in
    let found = sym (get_is pieces.came.items pieces.by_place pieces.held piece.start c.self.invariant) ∙ sym c.get.ensures.value ∙ ap option_copied c.in-Some.is in
    rw (← c.self.view_is)
    (c.is_same.ensures ∙ sym (repeat_found file piece c.in-Some.there.now (pieces_spec.in_order pieces.came.items) c.self.invariant.ordered found) ∙ any-in_order (pieces_spec.is_same file piece) pieces.came.items)

pub returns-in-None : goal.returns-in-None
returns-in-None c =
    let pieces = c.self.inside in
    let file = c.args.file.now in
    let piece = c.args.piece.now in
    let found = sym (get_is pieces.came.items pieces.by_place pieces.held piece.start c.self.invariant) ∙ sym c.get.ensures.value ∙ ap option_copied c.in-None.is in
    rw (← c.self.view_is) (sym (repeat_none file piece (pieces_spec.in_order pieces.came.items) found) ∙ any-in_order (pieces_spec.is_same file piece) pieces.came.items)
