use Rattle.std.proofs.Common.{◌≡◌, ◌+◌, ◌-◌, ℕ, List, length}
use Rattle.std.specs.Io.KnownBytes.{Consumes}
use Rattle.rtps_tool.proofs.streams.read_on.Given as goal

-- so much was read
abbrev pub invariant-rest : goal.invariant-rest
invariant-rest g l = (text : List ℕ) × Consumes (g.R.Read.remaining l.initial.input) (g.R.Read.remaining l.input) text × (l.from + length text ≡ l.total)

-- the octets that may still come
abbrev pub decreases-rest : goal.decreases-rest
decreases-rest g l = l.limits.octets + 1 - l.total
