use Rattle.std.proofs.Common.{Bool, ℕ, ◌≡◌, ◌<◌, ◌∙◌, false, true, zero, suc, refl, ap, sym, arith}
use Rattle.std.specs.Prelude.{◌&&◌, nat_eq, not}
use Rattle.rtps_capture.proofs.KeptLemmas.{last_tells, none_kept}
use Rattle.rtps_capture.proofs.pieces.Pieces.is_whole.Goals as goal

-- what cannot be more than 0
is_zero : (n : ℕ) → (0 < n → false ≡ true) → n ≡ 0
is_zero zero never = refl
is_zero (suc n) never = let no = never (omega arith) in cc

pub returns-then-not-last : goal.returns-then-not-last
returns-then-not-last c =
    let pieces = c.self.inside in
    let last = c.in-Some.last.now in
    let is = last_tells pieces.came.items pieces.by_place pieces.held c.in-Some.field-0-0.now last c.self.invariant c.in-Some.ensures.last in
    rw (← c.self.view_is) (sym (is ∙ ap (λ (b : Bool). not b && nat_eq pieces.held last.end) c.if-not-last.true))

pub returns-else-not-last : goal.returns-else-not-last
returns-else-not-last c =
    let pieces = c.self.inside in
    let last = c.in-Some.last.now in
    let is = last_tells pieces.came.items pieces.by_place pieces.held c.in-Some.field-0-0.now last c.self.invariant c.in-Some.ensures.last in
    rw (← c.self.view_is) (ap not c.if-not-last.false ∙ sym (is ∙ ap (λ (b : Bool). not b && nat_eq pieces.held last.end) c.if-not-last.false))

pub returns-in-None : goal.returns-in-None
returns-in-None c =
    let pieces = c.self.inside in
    rw (← c.self.view_is) (sym (none_kept pieces.came.items pieces.by_place pieces.held c.self.invariant (is_zero _ c.in-None.ensures.variant.1)))
