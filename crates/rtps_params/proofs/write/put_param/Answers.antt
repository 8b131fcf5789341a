use Rattle.std.proofs.Common.{arith}
use Rattle.rtps_ids.proofs.Offered.{length-octets_of}
use Rattle.rtps_params.proofs.Growth.{grown, lacks, on_err}
use Rattle.rtps_params.proofs.Written.{length-parameter_octets}
use Rattle.rtps_params.proofs.write.put_param.Goals as goal

pub returns-in_err-put_u16-2-clause-full : goal.returns-in_err-put_u16-2-clause-full
returns-in_err-put_u16-2-clause-full c =
    let size = grown c.args.out.now.items _ c.put_u16.new.out.items c.args.out.now.len c.put_u16.new.out.len c.args.out.now.ok.0 c.put_u16.new.out.ok.0 c.in_ok-put_u16.ensures.ok in
    on_err c.from_residual-in_err-put_u16-2.result
    (lacks _ _ c.args.out.now.len c.put_u16.new.out.len 2 _ c.put_u16.ensures.room c.in_err-put_u16-2.ensures.full
    (omega (arith, size, length-octets_of c.args.order 2 c.args.pid, length-parameter_octets c.args.order c.args.pid c.args.value.now)))
