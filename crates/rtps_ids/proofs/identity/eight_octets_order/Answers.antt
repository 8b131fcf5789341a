use Rattle.std.proofs.Common.{ap, ◌∙◌}
use Rattle.std.specs.Ordering.{nat_cmp}
use Rattle.rtps_ids.proofs.NumberOrder.{eight_order}
use Rattle.rtps_ids.proofs.identity.eight_octets_order.Goals as goal

pub returns : goal.returns
returns c =
    c.cmp.ensures ∙ ap (λ n. nat_cmp n c.read_u64-2.result) c.read_u64.ensures ∙ ap (nat_cmp _) c.read_u64-2.ensures
    ∙ eight_order c.args.one.now c.args.other.now c.requires.one c.requires.other c.type_inv.one c.type_inv.other
