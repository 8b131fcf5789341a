use Rattle.rtps_report.proofs.NoPairLemmas.{domains_more}
use Rattle.rtps_report.proofs.no_pair.in_domains.Goals as goal

pub loop-participant-preserved : goal.loop-participant-preserved
loop-participant-preserved c =
    domains_more c.args.participants.now c.loop-participant.participant-index _ _ _ c.loop-participant-test.true c.in_ok-push_known.ensures c.loop-participant.invariant
