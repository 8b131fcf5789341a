use Rattle.std.proofs.Common.{inl, inr, ap, sym}
use Rattle.rtps_wire.specs.Dataless as dataless
use Rattle.rtps_wire.specs.Message as message
use Rattle.rtps_wire.proofs.Dataless.{stays}
use Rattle.rtps_wire.proofs.message.is_dataless.Goals as goal

pub returns-in-9 : goal.returns-in-9
returns-in-9 c =
    let flags = c.args.flags in
    let octets = c.args.octets.now in
    sym (stays (message.body_fault c.args.id flags octets) (message.body_of c.args.id flags octets) (elim c.in-9.is [
      | inl is ↦ ap (λ id. dataless.is_dataless (message.body_of id flags octets)) is
      | inr others ↦ elim others [
        | inl is ↦ ap (λ id. dataless.is_dataless (message.body_of id flags octets)) is
        | inr last ↦ elim last [
          | inl is ↦ ap (λ id. dataless.is_dataless (message.body_of id flags octets)) is
          | inr is ↦ ap (λ id. dataless.is_dataless (message.body_of id flags octets)) is
        ]
      ]
    ]))
