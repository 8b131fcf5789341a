use Rattle.std.proofs.Common.{◌∙◌, arith}
use Rattle.rtps_ids.proofs.NumberOrder.{prefix_order}
use Rattle.rtps_ids.proofs.identity.GuidPrefixOrd.cmp.Goals as goal

pub returns : goal.returns
returns c =
    c.then.ensures
    ∙ rw (c.eight_octets_order.ensures, c.four_octets_order.ensures, c.split_at.ensures.front, c.split_at-2.ensures.front, c.split_at.ensures.back, c.split_at-2.ensures.back)
    (prefix_order c.args.self.now.0 c.args.other.now.0 (omega arith) (omega arith))
