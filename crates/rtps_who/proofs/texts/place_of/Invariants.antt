use Rattle.std.proofs.Common.{◌≡◌, ◌<◌, ℕ, get_or}
use Rattle.rtps_who.proofs.texts.place_of.Given as goal

-- no octet before is the mark
abbrev pub invariant-loop-place : goal.invariant-loop-place
invariant-loop-place l = (before : ℕ) → before < l.place → get_or l.octets before 0 ≡ l.mark → ⊥
