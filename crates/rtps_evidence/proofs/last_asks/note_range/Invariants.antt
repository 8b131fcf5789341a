use Rattle.std.proofs.Common.{◌≡◌, ◌&&◌, ℕ, None, Some, nat_le, nat_lt}
use Rattle.std.specs.BTreeMap.{get}
use Rattle.std.specs.Option.{option_or}
use Rattle.std.specs.Ordering.{nat_cmp}
use Rattle.std.specs.Prelude.{if◌then◌else◌}
use Rattle.rtps_coverage.specs.Stretches as stretches
use Rattle.rtps_evidence.proofs.last_asks.note_range.Given as goal

-- the numbers so far are noted
abbrev pub invariant-loop-number : goal.invariant-loop-number
invariant-loop-number l =
    (n : ℕ) → get nat_cmp l.asks n
    ≡ option_or (get nat_cmp l.fn.asks n) (if (nat_le l.fn.range.start n && nat_lt n l.number) && stretches.stretches_have l.fn.numbers n then Some l.fn.ask else None)
