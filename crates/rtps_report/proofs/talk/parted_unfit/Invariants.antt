use Rattle.std.proofs.Common.{◌≡◌, ◌++◌, filter, length, map, not}
use Rattle.std.specs.Vec.Iter.{into_iter_items, into_iter_len}
use Rattle.rtps_audit.specs.Index as index
use Rattle.rtps_audit.specs.Intake as intake
use Rattle.rtps_policies.specs.Unmatched as unmatched
use Rattle.rtps_report.specs.Talk as talk
use Rattle.rtps_report.proofs.talk.parted_unfit.Given as goal

-- those that are left make both lists whole
abbrev pub invariant-loop-one : goal.invariant-loop-one
invariant-loop-one l =
    (into_iter_len l.one-iterator ≡ length (into_iter_items l.one-iterator))
    × ((intake : intake.Intake) → index.IsIndexBy intake l.index
    → (map unmatched.unmatched_value l.parted.silent.items ++ filter (λ one. not (talk.talks intake (unmatched.pair_of one))) (map unmatched.unmatched_value (into_iter_items l.one-iterator))
    ≡ filter (λ one. not (talk.talks intake (unmatched.pair_of one))) (map unmatched.unmatched_value l.fn.unfit.items))
    × (map unmatched.unmatched_value l.parted.talking.items ++ filter (λ one. talk.talks intake (unmatched.pair_of one)) (map unmatched.unmatched_value (into_iter_items l.one-iterator))
    ≡ filter (λ one. talk.talks intake (unmatched.pair_of one)) (map unmatched.unmatched_value l.fn.unfit.items)))
