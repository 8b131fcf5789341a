use Rattle.std.proofs.Common.{ℕ, arith}
use Rattle.std.proofs.lemmas.List.{length-append}
use Rattle.rtps_ids.proofs.Offered.{length-octets_of}
use Rattle.rtps_write.proofs.WrittenGrowth.{grown, lacks, on_err, stays}
use Rattle.std.proofs.Common.{length}
use Rattle.rtps_wire.specs.Values as values
use Rattle.rtps_write.specs.Written as written
use Rattle.rtps_write.proofs.item.put_item.Goals as goal

pub returns-in_err-put_u16-clause-full : goal.returns-in_err-put_u16-clause-full
returns-in_err-put_u16-clause-full c =
    let s0 = grown c.args.out.now.items _ c.extend_from_slice.new.self.items c.args.out.now.len c.extend_from_slice.new.self.len c.args.out.now.ok.0 c.extend_from_slice.new.self.ok.0 c.in_ok-extend_from_slice.ensures.items in
    let r0 = c.extend_from_slice.ensures.capacity in
    on_err c.from_residual-in_err-put_u16.result (lacks _ _ c.args.out.now.len c.extend_from_slice.new.self.len _ _ (omega arith) c.in_err-put_u16.ensures.full (omega (arith, s0, length-append {A = ℕ}, length-octets_of c.args.item.now.order 2 (length (written.written_body c.args.item.now.order (values.body_value c.args.item.now.body))))))

pub returns-clause-kept : goal.returns-clause-kept
returns-clause-kept c = stays c.args.out.now.items _ c.extend_from_slice.new.self.items _ c.args.out.now.len c.extend_from_slice.new.self.len c.args.out.now.ok.0 c.extend_from_slice.new.self.ok.0 c.in_ok-extend_from_slice.ensures.items (stays c.extend_from_slice.new.self.items _ c.put_u16.new.out.items _ c.extend_from_slice.new.self.len c.put_u16.new.out.len c.extend_from_slice.new.self.ok.0 c.put_u16.new.out.ok.0 c.in_ok-put_u16.ensures.ok c.put_body.ensures.kept)
