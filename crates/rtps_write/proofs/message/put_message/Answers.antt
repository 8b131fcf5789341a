use Rattle.std.proofs.Common.{◌++◌, map, arith}
use Rattle.std.specs.List.{flat_map}
use Rattle.std.proofs.lemmas.List.{length-append}
use Rattle.rtps_wire.specs.Values as values
use Rattle.rtps_write.proofs.WrittenGrowth.{lacks, on_err}
use Rattle.rtps_write.specs.Written as written
use Rattle.rtps_write.proofs.message.put_message.Goals as goal

pub returns-in_err-reserve-clause-full : goal.returns-in_err-reserve-clause-full
returns-in_err-reserve-clause-full c =
    let header = c.args.header.now in
    let vendor = c.requires.held.vendor in
    let prefix = c.requires.held.prefix in
    let octets = flat_map written.item_octets (map values.item_value c.args.items.now) in
    on_err c.from_residual.result (lacks _ _ c.args.out.now.len c.args.out.now.len _ _ (omega arith) c.in_err-reserve.ensures.full
    (omega (arith, c.room_for.ensures, length-append header.vendor.0 header.prefix.0, length-append (header.vendor.0 ++ header.prefix.0) octets)))
