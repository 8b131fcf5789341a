use Rattle.std.proofs.Common.{◌≡◌, ◌<◌, ℕ, get_or, length}
use Rattle.rtps_wire.specs.NackFrag as nack_frag
use Rattle.rtps_wire.proofs.read.nack_frag.words_at.Given as goal

abbrev pub invariant-loop-i : goal.invariant-loop-i
invariant-loop-i l = (length l.words ≡ 8) × ((k : ℕ) → k < l.i → get_or l.words k 0 ≡ nack_frag.fragment_word l.order l.body k)
