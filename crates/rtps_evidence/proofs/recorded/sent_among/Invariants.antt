use Rattle.std.proofs.Common.{◌≡◌, ℕ, map, take}
use Rattle.rtps_audit.specs.Placed as placed
use Rattle.rtps_coverage.specs.Stretches as stretches
use Rattle.rtps_evidence.specs.Amount as amount
use Rattle.rtps_evidence.proofs.recorded.sent_among.Given as goal

-- the numbers so far
abbrev pub invariant-loop-placed : goal.invariant-loop-placed
invariant-loop-placed l =
    (n : ℕ) → stretches.stretches_have l.sent.items n ≡ amount.is_sent l.fn.pair.writer l.fn.pair.reader (map placed.placed_value (take l.placed-index l.acts)) n
