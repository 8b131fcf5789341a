use Rattle.std.proofs.Common.{ℕ, arith}
use Rattle.std.proofs.lemmas.List.{length-append}
use Rattle.std.proofs.lemmas.Result.{on_err_weaker}
use Rattle.rtps_ids.proofs.Offered.{length-octets_of}
use Rattle.rtps_write.proofs.WrittenGrowth.{grown, lacks}
use Rattle.rtps_write.proofs.ack_nack.ack_nack.Goals as goal

pub returns-clause-full : goal.returns-clause-full
returns-clause-full c =
    let s0 = grown c.args.out.now.items _ c.put_entities.new.out.items c.args.out.now.len c.put_entities.new.out.len c.args.out.now.ok.0 c.put_entities.new.out.ok.0 c.in_ok-put_entities.ensures.written in
    let s1 = grown c.put_entities.new.out.items _ c.put_set.new.out.items c.put_entities.new.out.len c.put_set.new.out.len c.put_entities.new.out.ok.0 c.put_set.new.out.ok.0 c.in_ok-put_set.ensures.written in
    let r0 = c.put_entities.ensures.room in
    let r1 = c.put_set.ensures.room in
    on_err_weaker c.put_u32.result (λ less. lacks _ _ c.args.out.now.len c.put_set.new.out.len _ _ (omega arith) less (omega (arith, s0, s1, length-append {A = ℕ}, length-octets_of c.args.order 4 c.args.body.now.count))) c.put_u32.ensures.full
