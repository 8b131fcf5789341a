use Rattle.std.proofs.Common.{ℕ, arith}
use Rattle.std.proofs.lemmas.List.{length-append}
use Rattle.rtps_ids.proofs.Offered.{length-octets_of, length-sequence_number_octets}
use Rattle.rtps_write.proofs.WrittenGrowth.{grown, lacks, on_err, stays}
use Rattle.rtps_write.proofs.WrittenSets.{set_parts}
use Rattle.rtps_write.proofs.fields.put_set.Goals as goal

pub returns-in_err-put_number-clause-full : goal.returns-in_err-put_number-clause-full
returns-in_err-put_number-clause-full c =
    on_err c.from_residual.result (lacks _ _ c.args.out.now.len c.args.out.now.len _ _ (omega arith) c.in_err-put_number.ensures.full (omega (arith, length-append {A = ℕ}, set_parts c.args.order c.args.set.now, length-sequence_number_octets, length-octets_of)))

pub returns-in_err-put_u32-clause-full : goal.returns-in_err-put_u32-clause-full
returns-in_err-put_u32-clause-full c =
    let s0 = grown c.args.out.now.items _ c.put_number.new.out.items c.args.out.now.len c.put_number.new.out.len c.args.out.now.ok.0 c.put_number.new.out.ok.0 c.in_ok-put_number.ensures.ok in
    let r0 = c.put_number.ensures.room in
    on_err c.from_residual-in_err-put_u32.result (lacks _ _ c.args.out.now.len c.put_number.new.out.len _ _ (omega arith) c.in_err-put_u32.ensures.full (omega (arith, s0, length-append {A = ℕ}, set_parts c.args.order c.args.set.now, length-sequence_number_octets, length-octets_of)))

pub returns-clause-kept : goal.returns-clause-kept
returns-clause-kept c = stays c.args.out.now.items _ c.put_number.new.out.items _ c.args.out.now.len c.put_number.new.out.len c.args.out.now.ok.0 c.put_number.new.out.ok.0 c.in_ok-put_number.ensures.ok (stays c.put_number.new.out.items _ c.put_u32.new.out.items _ c.put_number.new.out.len c.put_u32.new.out.len c.put_number.new.out.ok.0 c.put_u32.new.out.ok.0 c.in_ok-put_u32.ensures.ok c.put_words.ensures.kept)
