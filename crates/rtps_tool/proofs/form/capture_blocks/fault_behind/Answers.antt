use Rattle.rtps_tool.proofs.BlocksLemmas.{stop_fails, stop_past}
use Rattle.rtps_tool.proofs.form.capture_blocks.fault_behind.Goals as goal

pub returns-in-Ok : goal.returns-in-Ok
returns-in-Ok g c = λ captures before stops.
    stop_past c.args.limits captures before (g.R.Read.remaining c.args.input.now) (g.R.Read.remaining c.read_rest.new.input) c.args.stop c.in-Ok.total stops c.in-Ok.ensures c.if-total-limits.true

pub returns-in-Ok-2 : goal.returns-in-Ok-2
returns-in-Ok-2 g c = λ captures before stops.
    rw (c.from-in-Ok-2.ensures, c.from.ensures) (
    stop_fails c.course_is_told.ensures c.args.limits captures before (g.R.Read.remaining c.args.input.now) (g.R.Read.remaining c.read_rest.new.input) c.args.stop c.in-Ok.total stops c.in-Ok.ensures
    c.if-total-limits.false)
