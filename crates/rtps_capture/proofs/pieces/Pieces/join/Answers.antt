use Rattle.std.proofs.Common.{◌≡◌, ◌∙◌, ◌++◌, ◌∷◌, [], List, OnOk, subst, sym}
use Rattle.rtps_capture.specs.declared.pieces.Piece.{Piece}
use Rattle.rtps_capture.proofs.PieceLemmas.{left_all}
use Rattle.rtps_capture.proofs.pieces.Pieces.join.Goals as goal

pub returns : goal.returns
returns c =
    let left = sym (left_all c.args.piece c.loop-self.self (sym c.clashes.ensures ∙ c.loop-self-test.false)) ∙ c.loop-self.invariant in
    subst (λ (l : List Piece). OnOk c.add.result (c.add.new.self ≡ l ++ c.args.piece ∷ [])) left c.add.ensures
