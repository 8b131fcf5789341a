use Rattle.std.proofs.Common.{◌≡◌, ◌<◌, ℕ, get_or, length}
use Rattle.rtps_ids.specs.NumberSet as number_set
use Rattle.rtps_ids.proofs.set.NumberSet.new.Given as goal

abbrev pub invariant-loop-i : goal.invariant-loop-i
invariant-loop-i l = (length l.cleared_words ≡ 8) × ((k : ℕ) → k < l.i → get_or l.cleared_words k 0 ≡ number_set.cleared l.count (get_or l.words k 0) k)
