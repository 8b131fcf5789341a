use Rattle.std.proofs.Common.{nat_eq}
use Rattle.std.proofs.lemmas.Map.Iter.{rest_more}
use Rattle.rtps_known.proofs.LackingLemmas.{marked_more}
use Rattle.rtps_known.proofs.lacking.mark_ended.Goals as goal

pub loop-number-preserved : goal.loop-number-preserved
loop-number-preserved c = λ n below.
    let step = rest_more _ c.loop-number.number-iterator c.next.new.self c.next.result _ c.in-Some.is c.next.ensures.steps in
    marked_more (nat_eq n) n c.loop-number.marked.items c.push.new.self.items c.of_one.result _ c.loop-number.number-iterator c.next.new.self _ c.in_ok-push.ensures.items
    (c.of_one.ensures n below) step (c.loop-number.invariant n below)
