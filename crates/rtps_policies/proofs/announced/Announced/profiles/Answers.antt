use Rattle.std.proofs.Common.{◌<◌, arith, length}
use Rattle.rtps_policies.proofs.UnmatchedLemmas.{profile_more}
use Rattle.rtps_policies.proofs.announced.Announced.profiles.Goals as goal

pub loop-endpoint-preserved : goal.loop-endpoint-preserved
loop-endpoint-preserved c = λ acts said.
    let lt : c.loop-endpoint.endpoint-index < length c.args.endpoints.now = omega arith in
    profile_more acts c.args.endpoints.now c.loop-endpoint.endpoint-index _ c.loop-endpoint.profiles.items c.push.new.self.items c.profile.result lt (c.loop-endpoint.invariant acts said) c.in_ok-push.ensures.items
    (c.profile.ensures acts said)
