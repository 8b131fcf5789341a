use Rattle.std.proofs.Common.{map, sym, ap, ◌∙◌}
use Rattle.std.proofs.lemmas.List.{drop_at}
use Rattle.rtps_wire.specs.Reading as reading
use Rattle.rtps_wire.specs.Values as values
use Rattle.rtps_write.proofs.WrittenMessage.{written_reads}
use Rattle.rtps_write.specs.Written as written
use Rattle.std.specs.Vec.{vec_len}
use Rattle.std.proofs.Common.{drop}
use Rattle.rtps_write.proofs.message.write_message.Goals as goal

pub returns-in-Ok-clause-reads_back : goal.returns-in-Ok-clause-reads_back
returns-in-Ok-clause-reads_back c =
    let header = c.args.header.now in
    let items = map values.item_value c.args.items.now in
    let appended = ap (drop (vec_len c.args.out.now)) c.in-Ok.ensures.written ∙ drop_at c.args.out.now.items (written.message_octets header items) (vec_len c.args.out.now) (sym c.args.out.now.ok.0) in
    ap reading.reading_of appended ∙ written_reads header items c.in_default.ensures.header c.in_default.ensures.items (sym c.in_default.ensures.fault)
