use Rattle.std.proofs.Common.{ap, length, arith}
use Rattle.std.proofs.lemmas.Result.{on_err_weaker}
use Rattle.rtps_ids.proofs.Offered.{length-octets_of}
use Rattle.rtps_write.proofs.WrittenGrowth.{grown, lacks, on_err}
use Rattle.rtps_write.proofs.WrittenInfo.{info_ts_long}
use Rattle.rtps_write.specs.WrittenBodies as written_bodies
use Rattle.rtps_write.proofs.info.info_ts.Goals as goal

pub returns-in_err-put_u32-clause-full : goal.returns-in_err-put_u32-clause-full
returns-in_err-put_u32-clause-full c =
    let long = ap (λ time. length (written_bodies.info_ts_octets c.args.order time)) c.in-Some.is in
    on_err c.from_residual.result (lacks _ _ c.args.out.now.len c.args.out.now.len _ _ (omega arith) c.in_err-put_u32.ensures.full (omega (arith, long, info_ts_long c.args.order c.in-Some.stamp)))

pub returns-clause-full : goal.returns-clause-full
returns-clause-full c =
    let long = ap (λ time. length (written_bodies.info_ts_octets c.args.order time)) c.in-Some.is in
    let s0 = grown c.args.out.now.items _ c.put_u32.new.out.items c.args.out.now.len c.put_u32.new.out.len c.args.out.now.ok.0 c.put_u32.new.out.ok.0 c.in_ok-put_u32.ensures.ok in
    let r0 = c.put_u32.ensures.room in
    on_err_weaker c.put_u32-2.result (λ less. lacks _ _ c.args.out.now.len c.put_u32.new.out.len _ _ (omega arith) less
    (omega (arith, s0, long, info_ts_long c.args.order c.in-Some.stamp, length-octets_of c.args.order 4 c.in-Some.stamp.seconds))) c.put_u32-2.ensures.full
