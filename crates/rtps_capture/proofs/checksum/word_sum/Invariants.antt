use Rattle.std.proofs.Common.{◌≡◌, ◌≤◌, ◌+◌, ◌*◌, drop}
use Rattle.rtps_capture.specs.Checksum as checksum
use Rattle.rtps_capture.proofs.checksum.word_sum.Given as goal

-- with the sum of those to come it is the sum of all
abbrev pub invariant-loop-word : goal.invariant-loop-word
invariant-loop-word l = (l.sum ≤ 65535 * l.word) × (l.sum + checksum.word_sum (drop (2 * l.word) l.octets) ≡ checksum.word_sum l.octets)
