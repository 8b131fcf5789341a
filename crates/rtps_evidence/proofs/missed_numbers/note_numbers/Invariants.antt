use Rattle.std.proofs.Common.{◌≡◌, ◌&&◌, ◌-◌, ◌^◌, ℕ, Some}
use Rattle.std.specs.BTreeMap.{get}
use Rattle.std.specs.Ordering.{nat_cmp}
use Rattle.std.specs.Prelude.{if◌then◌else◌}
use Rattle.rtps_receiver.specs.Said as said
use Rattle.rtps_receiver.proofs.Offered.{below}
use Rattle.rtps_coverage.specs.Stretches as stretches
use Rattle.rtps_evidence.specs.Requests as requests
use Rattle.rtps_evidence.proofs.missed_numbers.note_numbers.Given as goal

-- the numbers below that place are noted
abbrev pub invariant-apart : goal.invariant-apart
invariant-apart l =
    (n : ℕ) → get nat_cmp l.requests n
    ≡ (if below (said.numbers_have l.numbers) l.at n && stretches.stretches_have l.fn.lacking n then Some (requests.new_request l.fn.place) else get nat_cmp l.fn.requests n)

abbrev pub decreases-apart : goal.decreases-apart
decreases-apart l = 2 ^ 64 - l.at
