use Rattle.std.proofs.Common.{◌≡◌, ◌∙◌}
use Rattle.std.specs.Ordering.{nat_cmp}
use Rattle.rtps_ids.proofs.NumberOrder.{identity_number, identity_order}
use Rattle.rtps_ids.proofs.identity.identity_order.Goals as goal

pub returns : goal.returns
returns c =
    let one : c.identity_number-number.result ≡ identity_number c.args.prefix.now c.args.entity.now = c.identity_number-number.ensures in
    let other : c.identity_number.result ≡ identity_number c.args.other_prefix.now c.args.other_entity.now =
    c.identity_number.ensures in
    c.cmp.ensures ∙ (λ i. nat_cmp (one i) (other i))
    ∙ identity_order c.args.prefix.now c.args.other_prefix.now c.args.entity.now c.args.other_entity.now
    c.requires.prefix c.requires.other_prefix c.requires.entity c.requires.other_entity
    c.type_inv.prefix c.type_inv.other_prefix c.type_inv.entity c.type_inv.other_entity
