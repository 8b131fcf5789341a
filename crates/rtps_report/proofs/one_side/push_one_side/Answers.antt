use Rattle.rtps_report.proofs.OneSideLemmas.{one_added}
use Rattle.rtps_report.proofs.one_side.push_one_side.Goals as goal

pub returns-in_ok-push : goal.returns-in_ok-push
returns-in_ok-push c = one_added _ c.in-Some.one c.one_side.result c.args.found.now.items c.push.new.self.items c.in-Some.is c.one_side.ensures c.in_ok-push.ensures.items
