use Rattle.std.proofs.lemmas.Result.{err_from_is_err_and}
use Rattle.rtps_params.proofs.Ending.{IsEndFrom-start, IsEndFrom-parameter, IsEndFrom-cut, IsEndFrom-sentinel}
use Rattle.rtps_params.proofs.parameter.list_size.Goals as goal

pub loop-parameter-init : goal.loop-parameter-init
loop-parameter-init c = IsEndFrom-start c.args.order c.args.octets.now

pub returns-in_err-parameter : goal.returns-in_err-parameter
returns-in_err-parameter c =
    let p = err_from_is_err_and c.from_residual.result c.from_residual.ensures.1 in
    rw (p.1, p.2) (IsEndFrom-cut c.args.order c.args.octets.now c.loop-parameter.rest.now c.in_err-parameter.field-0.0 c.loop-parameter.invariant c.in_err-parameter.ensures)

pub loop-parameter-preserved : goal.loop-parameter-preserved
loop-parameter-preserved c =
    let begins = rw c.in-Some.is at c.in_ok-parameter.ensures in
    IsEndFrom-parameter c.args.order c.args.octets.now c.loop-parameter.rest.now c.in-Some.parameter.rest.now c.loop-parameter.invariant begins.no_sentinel begins.room begins.rest_is

pub returns : goal.returns
returns c =
    let begins = rw c.in_default.is at c.in_ok-parameter.ensures in
    IsEndFrom-sentinel c.args.order c.args.octets.now c.loop-parameter.rest.now c.loop-parameter.invariant begins.room begins.pid_is
