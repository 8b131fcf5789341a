use Rattle.std.proofs.Common.{arith}
use Rattle.rtps_write.proofs.WrittenItems.{room_more, size_within}
use Rattle.rtps_write.proofs.message.room_for.Goals as goal

pub loop-item-preserved : goal.loop-item-preserved
loop-item-preserved c =
    let item = c.item-item.result in
    let small = size_within c.size.result _ (c.size.ensures.size item.order) in
    room_more c.args.items.now c.loop-item.item-index c.loop-item-test.true item c.loop-item.room c.saturating_add-room.result c.unwrap_or-size.result c.item-item.is c.loop-item.invariant
    (omega (arith, small, c.unwrap_or-size.ensures)) (omega (arith, c.from.ensures, c.saturating_add-room.ensures))
