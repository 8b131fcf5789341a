use Rattle.std.proofs.Common.{ℕ, arith}
use Rattle.std.proofs.lemmas.List.{length-append}
use Rattle.rtps_ids.proofs.Offered.{length-sequence_number_octets}
use Rattle.rtps_write.proofs.WrittenGrowth.{grown, lacks, on_err, stays}
use Rattle.std.specs.Prelude.{pos}
use Rattle.rtps_write.proofs.gap.gap.Goals as goal

pub returns-in_err-put_number-clause-full : goal.returns-in_err-put_number-clause-full
returns-in_err-put_number-clause-full c =
    let s0 = grown c.args.out.now.items _ c.put_entities.new.out.items c.args.out.now.len c.put_entities.new.out.len c.args.out.now.ok.0 c.put_entities.new.out.ok.0 c.in_ok-put_entities.ensures.written in
    let r0 = c.put_entities.ensures.room in
    on_err c.from_residual-in_err-put_number.result (lacks _ _ c.args.out.now.len c.put_entities.new.out.len _ _ (omega arith) c.in_err-put_number.ensures.full (omega (arith, s0, length-append {A = ℕ}, length-sequence_number_octets c.args.order (pos c.args.body.now.start))))

pub returns-clause-kept : goal.returns-clause-kept
returns-clause-kept c = stays c.args.out.now.items _ c.put_entities.new.out.items _ c.args.out.now.len c.put_entities.new.out.len c.args.out.now.ok.0 c.put_entities.new.out.ok.0 c.in_ok-put_entities.ensures.written (stays c.put_entities.new.out.items _ c.put_number.new.out.items _ c.put_entities.new.out.len c.put_number.new.out.len c.put_entities.new.out.ok.0 c.put_number.new.out.ok.0 c.in_ok-put_number.ensures.ok c.put_set.ensures.kept)
