use Rattle.std.proofs.Common.{sym, arith}
use Rattle.rtps_write.proofs.WrittenGrowth.{grown, lacks, on_err}
use Rattle.rtps_write.proofs.WrittenItems.{kept_behind, octets_within, small_at}
use Rattle.rtps_write.proofs.message.put_items.Goals as goal

pub put_item-requires : goal.put_item-requires
put_item-requires c = small_at c.args.items.now c.loop-item.item-index c.item-item.result c.requires c.loop-item-test.true c.item-item.is

pub returns-in_err-put_item-clause-kept : goal.returns-in_err-put_item-clause-kept
returns-in_err-put_item-clause-kept c =
    kept_behind _ _ _ _ _ _ (sym c.args.out.now.ok.0) c.loop-item.invariant.items (sym c.loop-item.out.ok.0) c.in_err-put_item.ensures.kept

pub returns-in_err-put_item-clause-full : goal.returns-in_err-put_item-clause-full
returns-in_err-put_item-clause-full c =
    let size = grown c.args.out.now.items _ c.loop-item.out.items c.args.out.now.len c.loop-item.out.len c.args.out.now.ok.0 c.loop-item.out.ok.0 c.loop-item.invariant.items in
    let within = octets_within c.args.items.now c.loop-item.item-index c.loop-item-test.true c.item-item.result in
    on_err c.from_residual.result
    (lacks _ _ c.args.out.now.len c.loop-item.out.len _ _ c.loop-item.invariant.room (rw c.item-item.is at c.in_err-put_item.ensures.full) (omega arith))
