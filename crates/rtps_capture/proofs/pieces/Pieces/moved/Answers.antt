use Rattle.std.proofs.Common.{◌≡◌, ◌∙◌, ◌++◌, List, ℕ, ap, length, subst, sym, arith}
use Rattle.rtps_capture.specs.Pieces as pieces
use Rattle.rtps_capture.specs.declared.pieces.Piece.{Piece}
use Rattle.rtps_capture.proofs.MovedLemmas.{PutSo, none_put, one_put_so, put_apart_so}
use Rattle.rtps_capture.proofs.pieces.Pieces.moved.Goals as goal

pub pieces-init : goal.pieces-init
pieces-init c =
    let from = c.args.from.now in
    let to = c.args.to.now.items in
    let came = c.self.inside.came.items in
    subst (λ (l : List Piece). PutSo from to to l c.new-moved.result came) c.self.view_is (subst (λ (put : List Piece). PutSo from to to came put came) (sym c.new-moved.ensures) (none_put from to came))

pub add-requires-clause-apart : goal.add-requires-clause-apart
add-requires-clause-apart c =
    let from = c.args.from.now in
    let old = c.args.to.now.items in
    let to = c.pieces.to.items in
    let piece = c.in-Some.piece in
    let left = c.pop_front.new.self.items in
    let at : c.len-at.result ≡ length to = omega (arith, c.len-at.ensures, c.pieces.to.ok) in
    put_apart_so from old to c.args.self c.pieces.moved piece _ left (subst (λ (l : List Piece). PutSo from old to c.args.self c.pieces.moved l) c.in-Some.ensures.items c.pieces.invariant)
    (subst (λ (l : List Piece). pieces.IsInOrder (pieces.in_order l)) c.self.view_is c.self.invariant.ordered) c.in-Some-whole_octets.ensures.2 (ap (λ (n : ℕ). record piece { at = n }) at)

pub pieces-preserved : goal.pieces-preserved
pieces-preserved c =
    let from = c.args.from.now in
    let old = c.args.to.now.items in
    let to = c.pieces.to.items in
    let piece = c.in-Some.piece in
    let left = c.pop_front.new.self.items in
    let at : c.len-at.result ≡ length to = omega (arith, c.len-at.ensures, c.pieces.to.ok) in
    one_put_so from old to c.extend_from_slice.new.self.items c.args.self c.pieces.moved c.add.new.self piece _ left
    (subst (λ (l : List Piece). PutSo from old to c.args.self c.pieces.moved l) c.in-Some.ensures.items c.pieces.invariant) c.in-Some-whole_octets.ensures.2
    (ap (λ (n : ℕ). record piece { at = n }) at) (c.in_ok-extend_from_slice.ensures.items ∙ ap (λ (l : List ℕ). to ++ l) c.in-Some-whole_octets.ensures.0) c.in_ok-add.ensures
