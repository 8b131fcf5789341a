use Rattle.std.proofs.Common.{ℕ, arith}
use Rattle.std.proofs.lemmas.List.{length-append}
use Rattle.std.proofs.lemmas.Result.{on_err_weaker}
use Rattle.rtps_ids.proofs.Offered.{length-octets_of, length-sequence_number_octets}
use Rattle.rtps_write.proofs.WrittenGrowth.{grown, lacks, on_err, stays}
use Rattle.std.specs.Prelude.{pos}
use Rattle.rtps_write.proofs.data.put_fields.Goals as goal

pub returns-in_err-put_u16-clause-full : goal.returns-in_err-put_u16-clause-full
returns-in_err-put_u16-clause-full c =
    let s0 = grown c.args.out.now.items _ c.extend_from_slice.new.self.items c.args.out.now.len c.extend_from_slice.new.self.len c.args.out.now.ok.0 c.extend_from_slice.new.self.ok.0 c.in_ok-extend_from_slice.ensures.items in
    let r0 = c.extend_from_slice.ensures.capacity in
    on_err c.from_residual-in_err-put_u16.result (lacks _ _ c.args.out.now.len c.extend_from_slice.new.self.len _ _ (omega arith) c.in_err-put_u16.ensures.full (omega (arith, s0, length-append {A = ℕ}, length-octets_of c.args.order 2 16, length-sequence_number_octets c.args.order (pos c.args.body.now.number))))

pub returns-in_err-put_entities-clause-kept : goal.returns-in_err-put_entities-clause-kept
returns-in_err-put_entities-clause-kept c = stays c.args.out.now.items _ c.extend_from_slice.new.self.items _ c.args.out.now.len c.extend_from_slice.new.self.len c.args.out.now.ok.0 c.extend_from_slice.new.self.ok.0 c.in_ok-extend_from_slice.ensures.items (stays c.extend_from_slice.new.self.items _ c.put_u16.new.out.items _ c.extend_from_slice.new.self.len c.put_u16.new.out.len c.extend_from_slice.new.self.ok.0 c.put_u16.new.out.ok.0 c.in_ok-put_u16.ensures.ok c.in_err-put_entities.ensures.kept)

pub returns-clause-full : goal.returns-clause-full
returns-clause-full c =
    let s0 = grown c.args.out.now.items _ c.extend_from_slice.new.self.items c.args.out.now.len c.extend_from_slice.new.self.len c.args.out.now.ok.0 c.extend_from_slice.new.self.ok.0 c.in_ok-extend_from_slice.ensures.items in
    let s1 = grown c.extend_from_slice.new.self.items _ c.put_u16.new.out.items c.extend_from_slice.new.self.len c.put_u16.new.out.len c.extend_from_slice.new.self.ok.0 c.put_u16.new.out.ok.0 c.in_ok-put_u16.ensures.ok in
    let s2 = grown c.put_u16.new.out.items _ c.put_entities.new.out.items c.put_u16.new.out.len c.put_entities.new.out.len c.put_u16.new.out.ok.0 c.put_entities.new.out.ok.0 c.in_ok-put_entities.ensures.written in
    let r0 = c.extend_from_slice.ensures.capacity in
    let r1 = c.put_u16.ensures.room in
    let r2 = c.put_entities.ensures.room in
    on_err_weaker c.put_number.result (λ less. lacks _ _ c.args.out.now.len c.put_entities.new.out.len _ _ (omega arith) less (omega (arith, s0, s1, s2, length-append {A = ℕ}, length-octets_of c.args.order 2 16, length-sequence_number_octets c.args.order (pos c.args.body.now.number)))) c.put_number.ensures.full
