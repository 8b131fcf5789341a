use Rattle.std.proofs.Common.{◌∙◌, ◌<◌, ◌≤◌, Some, ap, arith}
use Rattle.rtps_audit.specs.Placed as placed
use Rattle.rtps_evidence.specs.Locations as locations
use Rattle.rtps_evidence.proofs.HeardLemmas.{announced_anew, announced_still}
use Rattle.rtps_evidence.proofs.last_announcement.Announced.hear.Goals as goal

pub returns-then-last-self : goal.returns-then-last-self
returns-then-last-self c = λ acts is.
    let x = placed.placed_value c.args.placed.now in
    let said = c.announced_number-last.ensures.value in
    let le : locations.number_said c.args.writer x ≤ c.args.self.now.last = omega arith in
    announced_still c.args.writer acts x c.args.self.now le is

pub returns : goal.returns
returns c = λ acts is.
    let x = placed.placed_value c.args.placed.now in
    let said = c.announced_number-last.ensures.value in
    let lt : c.args.self.now.last < locations.number_said c.args.writer x = omega arith in
    announced_anew c.args.writer acts x c.args.self.now _ lt is said (ap Some (c.announcing.ensures ∙ ap (λ n. locations.announcement_at n x) said))
