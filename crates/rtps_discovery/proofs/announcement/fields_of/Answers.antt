use Rattle.std.proofs.Common.{arith, sym}
use Rattle.rtps_discovery.proofs.FieldsFound.{fields_read}
use Rattle.rtps_discovery.proofs.announcement.fields_of.Goals as goal

pub returns-in-Ok : goal.returns-in-Ok
returns-in-Ok c =
    let read = c.in-Ok.ensures in
    fields_read c.args.payload.now c.in-Some.order c.in-Ok.field-0-1 c.in-Ok.list (omega arith) (sym c.in-Some.ensures) (record { found = read.found; is_list = read.list; octets_are = read.octets; order_is = read.order })
