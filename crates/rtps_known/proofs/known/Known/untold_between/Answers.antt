use Rattle.std.proofs.Common.{inl}
use Rattle.rtps_known.proofs.UntoldLemmas.{told_is}
use Rattle.rtps_known.proofs.known.Known.untold_between.Goals as goal

pub returns-in_default : goal.returns-in_default
returns-in_default c = λ acts known. inl c.in_default.ensures

pub returns : goal.returns
returns c = λ acts known.
    told_is acts c.args.visits.now c.args.naming c.in-Some.end c.in_ok-untold.untold c.if_something.result c.if_something.ensures c.in-Some.ensures (c.in_ok-untold.ensures acts known)
