use Rattle.std.proofs.Common.{◌-◌, ◌≤◌, length, take}
use Rattle.std.specs.Io.KnownBytes.{Appends}
use Rattle.rtps_tool.proofs.streams.write_text.Given as goal

-- the front of the text was written
abbrev pub invariant-writes : goal.invariant-writes
invariant-writes g l = (l.written ≤ length l.text) × Appends (g.W.Write.contents l.initial.output) (g.W.Write.contents l.output) (take l.written l.text)

abbrev pub decreases-writes : goal.decreases-writes
decreases-writes g l = length l.text - l.written
