use Rattle.std.proofs.Common.{◌∙◌, sym}
use Rattle.rtps_capture.proofs.FoundLemmas.{IsFrontApart, apart_all, back_none, back_tells, before_clashes, front_apart, front_none}
use Rattle.rtps_capture.proofs.pieces.Pieces.clashes.Goals as goal
use Rattle.rtps_capture.proofs.pieces.Pieces.clashes.Goals.{in-Some+else-not-stands_before, in_default}

pub returns-then-not-stands_before : goal.returns-then-not-stands_before
returns-then-not-stands_before c =
    let pieces = c.self.inside in
    let stands = sym c.stands_before.ensures ∙ c.if-not-stands_before.true in
    rw (← c.self.view_is)
    (sym (before_clashes c.args.piece.now pieces.came.items pieces.by_place pieces.held c.self.invariant c.range.result c.next_back.new.self c.in-Some.field-0-0.now c.in-Some.before.now
    (c.range.ensures.in_range tt) c.in-Some.ensures.steps stands))

pub returns-in-Some-next : goal.returns-in-Some-next
returns-in-Some-next c =
    let pieces = c.self.inside in
    let kept = c.self.invariant in
    let piece = c.args.piece.now in
    let front : IsFrontApart piece pieces.came.items = elim c.match-next_back.branch [
      | in-Some+else-not-stands_before w ↦ front_apart piece pieces.came.items pieces.by_place pieces.held kept c.range.result c.next_back.new.self w.in-Some.field-0-0.now w.in-Some.before.now
          (c.range.ensures.in_range tt) w.in-Some.ensures.steps (sym w.stands_before.ensures ∙ w.if-not-stands_before.false)
      | in_default w ↦ front_none piece pieces.came.items pieces.by_place pieces.held kept c.range.result (c.range.ensures.in_range tt) w.in_default.ensures.steps.0
    ] in
    rw (← c.self.view_is) (back_tells piece pieces.came.items pieces.by_place pieces.held kept front c.range-2.result c.next.new.self c.in-Some-next.field-0-0.now c.in-Some-next.behind.now
    (c.range-2.ensures.in_range tt) c.in-Some-next.ensures.steps c.stands_before-in-Some-next.result c.stands_before-in-Some-next.ensures)

pub returns-in-None : goal.returns-in-None
returns-in-None c =
    let pieces = c.self.inside in
    let kept = c.self.invariant in
    let piece = c.args.piece.now in
    let front : IsFrontApart piece pieces.came.items = elim c.match-next_back.branch [
      | in-Some+else-not-stands_before w ↦ front_apart piece pieces.came.items pieces.by_place pieces.held kept c.range.result c.next_back.new.self w.in-Some.field-0-0.now w.in-Some.before.now
          (c.range.ensures.in_range tt) w.in-Some.ensures.steps (sym w.stands_before.ensures ∙ w.if-not-stands_before.false)
      | in_default w ↦ front_none piece pieces.came.items pieces.by_place pieces.held kept c.range.result (c.range.ensures.in_range tt) w.in_default.ensures.steps.0
    ] in
    let back = back_none piece pieces.came.items pieces.by_place pieces.held kept c.range-2.result (c.range-2.ensures.in_range tt) c.in-None.ensures.steps.0 in
    rw (← c.self.view_is) (sym (apart_all piece pieces.came.items pieces.by_place pieces.held kept front back))
