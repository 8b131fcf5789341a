use Rattle.std.proofs.Common.{ℕ, ◌≡◌, ◌≤◌, ◌<◌, List, ◌++◌, map, take}
use Rattle.std.specs.List.{All}
use Rattle.rtps_receiver.specs.Values as values
use Rattle.rtps_discovery.specs.declared.matching.Pair.{Pair}
use Rattle.rtps_audit.specs.Placed as placed
use Rattle.rtps_passes.specs.Judging as judging
use Rattle.rtps_passes.proofs.judging.Judging.note_answers.Given as goal

-- the answers among the acts so far
abbrev pub invariant-loop-act : goal.invariant-loop-act
invariant-loop-act l = record {
  datagrams : l.self.datagrams ≡ l.fn.self.datagrams;
  taken : (from : ℕ) (pairs : List Pair) (asked heard : List placed.PlacedValue) → 1 ≤ l.fn.self.datagrams → All (λ at. at.datagram < l.fn.self.datagrams) heard → judging.HaveTakenIn from l.fn.self.datagrams pairs asked heard l.fn.self.writers.items
      → judging.HaveTakenIn from l.fn.self.datagrams pairs (asked ++ placed.placed_at l.fn.self.datagrams (map values.spoken_value (take l.act-index l.acts))) heard l.self.writers.items;
}
