use Rattle.std.proofs.lemmas.Result.{err_from_is_err_and}
use Rattle.rtps_params.proofs.Written.{fault_here, none_more}
use Rattle.rtps_params.proofs.write.check_params.Goals as goal

pub returns-in_err-check_param : goal.returns-in_err-check_param
returns-in_err-check_param c =
    let p = err_from_is_err_and c.from_residual.result c.from_residual.ensures.1 in
    rw (p.1, p.2) (fault_here c.args.params.now c.loop-pid.pid-index _ c.loop-pid-test.true c.loop-pid.invariant c.in_err-check_param.field-0.0 c.in_err-check_param.ensures)

pub loop-pid-preserved : goal.loop-pid-preserved
loop-pid-preserved c = none_more c.args.params.now c.loop-pid.pid-index _ c.loop-pid-test.true c.loop-pid.invariant c.in_ok-check_param.ensures
