use Rattle.std.proofs.Common.{ℕ, ◌≡◌, List, ◌++◌, map, take}
use Rattle.rtps_receiver.specs.Values as values
use Rattle.rtps_discovery.specs.declared.matching.Pair.{Pair}
use Rattle.rtps_audit.specs.Placed as placed
use Rattle.rtps_passes.specs.Judging as judging
use Rattle.rtps_passes.proofs.judging.Judging.hear_all.Given as goal

-- the acts so far
abbrev pub invariant-loop-act : goal.invariant-loop-act
invariant-loop-act l = record {
  datagrams : l.self.datagrams ≡ l.fn.self.datagrams;
  taken : (from datagram : ℕ) (pairs : List Pair) (asked heard : List placed.PlacedValue) → judging.HaveTakenIn from datagram pairs asked heard l.fn.self.writers.items
      → judging.HaveTakenIn from datagram pairs asked (heard ++ placed.placed_at datagram (map values.spoken_value (take l.act-index l.acts))) l.self.writers.items;
}
