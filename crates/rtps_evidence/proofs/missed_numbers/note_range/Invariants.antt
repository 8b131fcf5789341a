use Rattle.std.proofs.Common.{◌≡◌, ◌&&◌, ℕ, Some, nat_le, nat_lt}
use Rattle.std.specs.BTreeMap.{get}
use Rattle.std.specs.Ordering.{nat_cmp}
use Rattle.std.specs.Prelude.{if◌then◌else◌}
use Rattle.rtps_coverage.specs.Stretches as stretches
use Rattle.rtps_evidence.specs.Requests as requests
use Rattle.rtps_evidence.proofs.missed_numbers.note_range.Given as goal

-- the numbers so far are noted
abbrev pub invariant-loop-number : goal.invariant-loop-number
invariant-loop-number l =
    (n : ℕ) → get nat_cmp l.requests n
    ≡ (if (nat_le l.fn.numbers.start n && nat_lt n l.number) && stretches.stretches_have l.fn.lacking n then Some (requests.new_request l.fn.place) else get nat_cmp l.fn.requests n)
