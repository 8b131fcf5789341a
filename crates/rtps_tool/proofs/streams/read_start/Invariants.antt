use Rattle.std.proofs.Common.{◌-◌, ◌≤◌, take}
use Rattle.std.specs.Io.KnownBytes.{Consumes}
use Rattle.rtps_tool.proofs.streams.read_start.Given as goal

-- the front of what is held was read
abbrev pub invariant-start : goal.invariant-start
invariant-start g l =
    (l.start ≤ 65539) × Consumes (g.R.Read.remaining l.initial.input) (g.R.Read.remaining l.input) (take l.start l.held)

abbrev pub decreases-start : goal.decreases-start
decreases-start g l = 4 - l.start
