use Rattle.std.proofs.Common.{◌≡◌, ◌<◌, ℕ, get_or, length}
use Rattle.rtps_ids.specs.NumberSet as number_set
use Rattle.rtps_ids.proofs.set.read_words.Given as goal

abbrev pub invariant-loop-i : goal.invariant-loop-i
invariant-loop-i l = (length l.words ≡ 8) × ((k : ℕ) → k < l.i → get_or l.words k 0 ≡ number_set.cleared l.count (number_set.spelled_word l.order l.bytes k) k)
