use Rattle.std.proofs.Common.{◌≡◌, ◌∙◌, ap, sym, refl, arith, drop}
use Rattle.std.proofs.lemmas.List.{length-drop}
use Rattle.rtps_wire.specs.Reading as reading
use Rattle.rtps_wire.proofs.Readings.{length-outcomes, reading_opened, reading_refused}
use Rattle.rtps_wire.proofs.message.Items.open.Goals as goal

pub returns-in-Ok : goal.returns-in-Ok
returns-in-Ok c =
    let datagram = c.args.bytes.now in
    let read : reading.outcomes c.rest_at-rest.result.now 20 ≡ reading.outcomes (drop 20 datagram) 20 = ap (λ rest. reading.outcomes rest 20) c.rest_at-rest.ensures in
    let header = c.in-Ok.ensures.header in (
      reading_opened datagram header.0 ∙ ap (λ h. reading.read_as h (reading.outcomes (drop 20 datagram) 20)) (sym header.1) ∙ ap (reading.read_as c.in-Ok.header) (sym read),
      rw read (omega (arith, length-outcomes (drop 20 datagram) 20, length-drop 20 datagram)),
    )

pub returns-in-Err : goal.returns-in-Err
returns-in-Err c = (reading_refused c.args.bytes.now c.in-Err.fault c.in-Err.ensures.header, refl)
