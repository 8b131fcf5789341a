use Rattle.std.proofs.Common.{ℕ, arith}
use Rattle.std.proofs.lemmas.List.{length-append}
use Rattle.std.proofs.lemmas.Result.{on_err_weaker}
use Rattle.rtps_ids.proofs.Offered.{length-octets_of, length-sequence_number_octets}
use Rattle.rtps_write.proofs.WrittenGrowth.{grown, lacks, on_err}
use Rattle.rtps_write.proofs.WrittenHeartbeat.{heartbeat_parts}
use Rattle.rtps_write.proofs.heartbeat.heartbeat.Goals as goal

pub returns-in_err-put_number-clause-full : goal.returns-in_err-put_number-clause-full
returns-in_err-put_number-clause-full c =
    let s0 = grown c.args.out.now.items _ c.put_entities.new.out.items c.args.out.now.len c.put_entities.new.out.len c.args.out.now.ok.0 c.put_entities.new.out.ok.0 c.in_ok-put_entities.ensures.written in
    let r0 = c.put_entities.ensures.room in
    on_err c.from_residual-in_err-put_number.result (lacks _ _ c.args.out.now.len c.put_entities.new.out.len _ _ (omega arith) c.in_err-put_number.ensures.full (omega (arith, s0, length-append {A = ℕ}, heartbeat_parts c.args.order c.args.body.now)))

pub returns-in_err-put_number-2-clause-full : goal.returns-in_err-put_number-2-clause-full
returns-in_err-put_number-2-clause-full c =
    let s0 = grown c.args.out.now.items _ c.put_entities.new.out.items c.args.out.now.len c.put_entities.new.out.len c.args.out.now.ok.0 c.put_entities.new.out.ok.0 c.in_ok-put_entities.ensures.written in
    let s1 = grown c.put_entities.new.out.items _ c.put_number.new.out.items c.put_entities.new.out.len c.put_number.new.out.len c.put_entities.new.out.ok.0 c.put_number.new.out.ok.0 c.in_ok-put_number.ensures.ok in
    let r0 = c.put_entities.ensures.room in
    let r1 = c.put_number.ensures.room in
    on_err c.from_residual-in_err-put_number-2.result (lacks _ _ c.args.out.now.len c.put_number.new.out.len _ _ (omega arith) c.in_err-put_number-2.ensures.full (omega (arith, s0, s1, length-append {A = ℕ}, heartbeat_parts c.args.order c.args.body.now, length-sequence_number_octets, length-octets_of)))

pub returns-clause-full : goal.returns-clause-full
returns-clause-full c =
    let s0 = grown c.args.out.now.items _ c.put_entities.new.out.items c.args.out.now.len c.put_entities.new.out.len c.args.out.now.ok.0 c.put_entities.new.out.ok.0 c.in_ok-put_entities.ensures.written in
    let s1 = grown c.put_entities.new.out.items _ c.put_number.new.out.items c.put_entities.new.out.len c.put_number.new.out.len c.put_entities.new.out.ok.0 c.put_number.new.out.ok.0 c.in_ok-put_number.ensures.ok in
    let s2 = grown c.put_number.new.out.items _ c.put_number-2.new.out.items c.put_number.new.out.len c.put_number-2.new.out.len c.put_number.new.out.ok.0 c.put_number-2.new.out.ok.0 c.in_ok-put_number-2.ensures.ok in
    let r0 = c.put_entities.ensures.room in
    let r1 = c.put_number.ensures.room in
    let r2 = c.put_number-2.ensures.room in
    on_err_weaker c.put_u32.result (λ less. lacks _ _ c.args.out.now.len c.put_number-2.new.out.len _ _ (omega arith) less (omega (arith, s0, s1, s2, length-append {A = ℕ}, heartbeat_parts c.args.order c.args.body.now, length-sequence_number_octets, length-octets_of))) c.put_u32.ensures.full
