use Rattle.std.proofs.Common.{ℕ, ◌≡◌, List, ◌++◌, map, take}
use Rattle.std.specs.List.Sorted.{IsStrictlySortedBy}
use Rattle.rtps_receiver.specs.Values as values
use Rattle.rtps_discovery.specs.GuidOrder.{guid_cmp}
use Rattle.rtps_audit.specs.Placed as placed_spec
use Rattle.rtps_passes.specs.Comparison as comparison
use Rattle.rtps_passes.proofs.comparison.Comparison.note.Given as goal

-- what the acts so far tell
abbrev pub invariant-loop-act : goal.invariant-loop-act
invariant-loop-act l = record {
  judging : l.self.judging ≡ l.fn.self.judging;
  kept : (datagram : ℕ) (placed : List placed_spec.PlacedValue) → IsStrictlySortedBy guid_cmp (map (λ judged. judged.writer) l.fn.self.judging.now.writers.items)
      → comparison.HaveKept l.fn.self.judging.now.writers.items placed l.fn.self.kept.items
      → comparison.HaveKept l.fn.self.judging.now.writers.items (placed ++ placed_spec.placed_at datagram (map values.spoken_value (take l.act-index l.acts))) l.self.kept.items;
}
