use Rattle.std.proofs.Common.{nat_eq}
use Rattle.std.proofs.lemmas.Map.Iter.{rest_more}
use Rattle.rtps_known.specs.declared.telling.Announcement.{Announcement}
use Rattle.rtps_known.proofs.LackingLemmas.{marked_more}
use Rattle.rtps_known.proofs.lacking.mark_announced.Goals as goal

pub loop-announcement-preserved : goal.loop-announcement-preserved
loop-announcement-preserved c = λ n below.
    let step = rest_more _ c.loop-announcement.announcement-iterator c.next.new.self c.next.result _ c.in-Some.is c.next.ensures.steps in
    marked_more (λ (announcement : Announcement). nat_eq n announcement.number) n c.loop-announcement.marked.items c.push.new.self.items c.of_one.result _
    c.loop-announcement.announcement-iterator c.next.new.self _ c.in_ok-push.ensures.items (c.of_one.ensures n below) step (c.loop-announcement.invariant n below)
