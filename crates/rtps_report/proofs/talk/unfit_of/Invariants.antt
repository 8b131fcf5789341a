use Rattle.std.proofs.Common.{map, take}
use Rattle.rtps_policies.specs.Unmatched as unmatched
use Rattle.rtps_report.specs.Talk as talk
use Rattle.rtps_report.proofs.talk.unfit_of.Given as goal

abbrev pub invariant-loop-one : goal.invariant-loop-one
invariant-loop-one l = talk.AreUnfit (map unmatched.unmatched_value (take l.one-index l.unmatched)) l.unfit
