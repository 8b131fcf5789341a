use Rattle.std.proofs.lemmas.Result.{err_from_is_err_and}
use Rattle.rtps_wire.proofs.SetFields.{list_fault-lacking, list_fault-positive}
use Rattle.rtps_wire.proofs.read.gap.list.Goals as goal

pub returns-in_err-list : goal.returns-in_err-list
returns-in_err-list c =
    let p = err_from_is_err_and c.from_residual.result c.from_residual.ensures.1 in
    rw (p.1, p.2) (list_fault-lacking _ _ _ c.requires c.in_err-list.ensures)

pub returns : goal.returns
returns c = (list_fault-positive _ _ _ c.requires c.in_ok-list.ensures (λ zero. c.if-base-eq0.false (rw c.base.ensures zero)), c.in_ok-list.ensures.set)
