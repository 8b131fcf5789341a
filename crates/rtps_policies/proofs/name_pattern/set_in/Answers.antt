use Rattle.rtps_policies.proofs.SegmentLemmas.{set_found}
use Rattle.rtps_policies.proofs.name_pattern.set_in.Goals as goal

pub returns : goal.returns
returns c =
    set_found c.args.behind.now c.unmarked-outside.result.1.now c.split_at.result.0.now c.split_at.result.1.now c.unmarked-outside.result.0 c.in_ok-place.place
    c.unmarked-outside.ensures.marked c.unmarked-outside.ensures.body c.in_ok-place.ensures.place c.split_at.ensures.front c.split_at.ensures.back
