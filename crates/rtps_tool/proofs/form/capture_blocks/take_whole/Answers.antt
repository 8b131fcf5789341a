use Rattle.std.proofs.Common.{◌≤◌, [], arith}
use Rattle.rtps_tool.proofs.BlocksLemmas.{takes_all, taken_past}
use Rattle.rtps_tool.proofs.form.capture_blocks.take_whole.Goals as goal

pub returns-in-Ok : goal.returns-in-Ok
returns-in-Ok g c = λ before so.
    let done = c.in-Ok.ensures c.args.terms.captures before [] so in
    taken_past c.args.terms.limits c.args.terms.captures before (g.R.Read.remaining c.take_all.new.input) c.take_all.new.reader done.0 (omega (arith, c.octets_read.ensures, c.if-octets_read-limits.true)) done.2

pub returns-in-Ok-2 : goal.returns-in-Ok-2
returns-in-Ok-2 g c = λ before so.
    let done = c.in-Ok.ensures c.args.terms.captures before [] so in
    let reader = c.take_all.new.reader in
    let few : reader.frames.held.read ≤ c.args.terms.limits.octets = omega (arith, c.octets_read.ensures, c.if-octets_read-limits.false) in
    takes_all c.args.terms.limits c.args.terms.captures before (g.R.Read.remaining c.take_all.new.input) reader _ _ c.summary.ensures.told c.octets_read-in-Ok-2.ensures few done

pub returns-in-Err : goal.returns-in-Err
returns-in-Err g c = λ before so. c.fault_told.ensures c.args.terms.captures before (c.in-Err.ensures c.args.terms.captures before [] so)
