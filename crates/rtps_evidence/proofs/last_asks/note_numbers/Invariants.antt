use Rattle.std.proofs.Common.{◌≡◌, ◌&&◌, ◌-◌, ◌^◌, ℕ, None, Some}
use Rattle.std.specs.BTreeMap.{get}
use Rattle.std.specs.Option.{option_or}
use Rattle.std.specs.Ordering.{nat_cmp}
use Rattle.std.specs.Prelude.{if◌then◌else◌}
use Rattle.rtps_receiver.specs.Said as said
use Rattle.rtps_receiver.proofs.Offered.{below}
use Rattle.rtps_coverage.specs.Stretches as stretches
use Rattle.rtps_evidence.proofs.last_asks.note_numbers.Given as goal

-- the numbers below that place are noted
abbrev pub invariant-apart : goal.invariant-apart
invariant-apart l =
    (n : ℕ) → get nat_cmp l.asks n
    ≡ option_or (get nat_cmp l.fn.asks n) (if below (said.numbers_have l.named) l.at n && stretches.stretches_have l.fn.numbers n then Some l.fn.ask else None)

abbrev pub decreases-apart : goal.decreases-apart
decreases-apart l = 2 ^ 64 - l.at
