use Rattle.std.proofs.Common.{◌+◌, ◌-◌, ◌∙◌, ◌++◌, ◌∷◌, [], List, ap, subst, sym, arith}
use Rattle.rtps_capture.specs.Pieces as pieces_spec
use Rattle.rtps_capture.specs.declared.pieces.Piece.{Piece}
use Rattle.rtps_capture.proofs.KeptLemmas.{added, same_kept}
use Rattle.rtps_capture.proofs.pieces.Pieces.add.Goals as goal

pub overflow_add-self : goal.overflow_add-self
overflow_add-self c =
    let pieces = c.self.inside in
    let apart = ap (λ (l : List Piece). pieces_spec.clashes_with l c.args.piece) c.self.view_is ∙ c.requires.apart in
    omega (arith, (added c.args.piece pieces.came.items pieces.by_place c.insert.new.self pieces.held c.self.invariant (c.requires.ordered, omega arith) apart c.in_ok-insert.ensures.entries).within)

pub invariant_of-self : goal.invariant_of-self
invariant_of-self c = subst (λ (l : List Piece). pieces_spec.AreKept l c.self.inside.by_place c.self.inside.held) (sym c.reserve.ensures.items) c.self.invariant

pub invariant_of-self-2 : goal.invariant_of-self-2
invariant_of-self-2 c =
    let pieces = c.self.inside in
    let apart = ap (λ (l : List Piece). pieces_spec.clashes_with l c.args.piece) c.self.view_is ∙ c.requires.apart in
    let all = c.push_back_reserved.ensures.items ∙ ap (λ (l : List Piece). l ++ c.args.piece ∷ []) c.reserve.ensures.items in
    subst (λ (l : List Piece). pieces_spec.AreKept l c.insert.new.self (pieces.held + (c.args.piece.end - c.args.piece.start))) (sym all)
    (added c.args.piece pieces.came.items pieces.by_place c.insert.new.self pieces.held c.self.invariant (c.requires.ordered, omega arith) apart c.in_ok-insert.ensures.entries).kept

pub invariant_of-self-in_err-insert : goal.invariant_of-self-in_err-insert
invariant_of-self-in_err-insert c =
    same_kept c.self.inside.came.items c.reserve.new.self.items c.self.inside.by_place c.insert.new.self c.self.inside.held c.reserve.ensures.items c.in_err-insert.ensures.err c.self.invariant
