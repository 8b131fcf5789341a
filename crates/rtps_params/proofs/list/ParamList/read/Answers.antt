use Rattle.std.proofs.Common.{arith}
use Rattle.std.proofs.lemmas.List.{length-take}
use Rattle.std.proofs.lemmas.Result.{err_from_is_err_and}
use Rattle.rtps_params.specs.Reading as reading
use Rattle.rtps_params.proofs.Agreement.{IsList-from_end, HasFault-from_end, no_list-from_end}
use Rattle.rtps_params.proofs.list.ParamList.read.Goals as goal

pub returns-in_err-used-clause-fault : goal.returns-in_err-used-clause-fault
returns-in_err-used-clause-fault c =
    let p = err_from_is_err_and c.from_residual.result c.from_residual.ensures.1 in
    rw (p.1, p.2) (HasFault-from_end c.args.order c.args.bytes.now c.in_err-used.field-0.0 c.in_err-used.ensures)

pub slice_bounds-octets-end : goal.slice_bounds-octets-end
slice_bounds-octets-end c =
    let list = IsList-from_end c.args.order c.args.bytes.now c.in_ok-used.used c.in_ok-used.ensures in
    omega (arith, length-take c.in_ok-used.used c.args.bytes.now, list.0)

pub invariant_of-result : goal.invariant_of-result
invariant_of-result c =
    let list = IsList-from_end c.args.order c.args.bytes.now c.in_ok-used.used c.in_ok-used.ensures in
    record { is_list = ∣ (reading.pairs_of c.args.order c.args.bytes.now, list.1) ∣₁ }

pub returns-clause-list : goal.returns-clause-list
returns-clause-list c = (IsList-from_end c.args.order c.args.bytes.now c.in_ok-used.used c.in_ok-used.ensures).1

pub returns-clause-used : goal.returns-clause-used
returns-clause-used c = (IsList-from_end c.args.order c.args.bytes.now c.in_ok-used.used c.in_ok-used.ensures).0

pub returns-in_err-used-clause-none : goal.returns-in_err-used-clause-none
returns-in_err-used-clause-none c =
    let p = err_from_is_err_and c.from_residual.result c.from_residual.ensures.1 in
    rw p.1 (no_list-from_end c.args.order c.args.bytes.now c.in_err-used.field-0.0 c.in_err-used.ensures)
