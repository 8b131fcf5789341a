use Rattle.std.proofs.Common.{◌≡◌, ◌+◌, ◌*◌, ◌<◌, ℕ, get_or, length, take, None}
use Rattle.rtps_evidence.specs.Times as times
use Rattle.rtps_evidence.proofs.datagram_times.ends_of.Given as goal

-- the ends so far, and how many datagrams the block has beyond them
abbrev pub invariant-loop-time : goal.invariant-loop-time
invariant-loop-time l = record {
  latest : l.latest ≡ times.end_of (take l.time-index l.times);
  size : l.time-index + l.left ≡ 1024 * length l.ends.items;
  each : (k : ℕ) → k < length l.ends.items → get_or l.ends.items k None ≡ times.end_of (take (1024 * k) l.times);
}
