use Rattle.std.proofs.Common.{◌≡◌, ◌≤◌, count_by, take}
use Rattle.std.specs.BTreeSet.{contains}
use Rattle.rtps_discovery.specs.GuidOrder as guid_order
use Rattle.rtps_report.proofs.not_told.count_among.Given as goal

-- those so far
abbrev pub invariant-loop-participant : goal.invariant-loop-participant
invariant-loop-participant l =
    (l.count ≡ count_by (λ participant. contains guid_order.guid_cmp l.those participant.guid) (take l.participant-index l.participants)) × (l.count ≤ l.participant-index)
