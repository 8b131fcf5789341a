use Rattle.std.proofs.Common.{◌^◌, ◌-◌, List, ℕ, Option}
use Rattle.rtps_capture.specs.Course as course
use Rattle.rtps_capture.specs.declared.captures.Captures.{Captures}
use Rattle.rtps_tool.specs.CaptureBlocks as blocks
use Rattle.rtps_tool.proofs.form.capture_blocks.take_all.Given as goal

-- the datagrams so far were taken
abbrev pub invariant-datagrams : goal.invariant-datagrams
invariant-datagrams g l =
    (captures : Captures) (before : Option (List ℕ)) (datagrams : List course.DatagramValue)
    → blocks.CameSo l.limits captures before (g.R.Read.remaining l.initial.input) l.initial.reader datagrams
    → (more : List course.DatagramValue) × ((start : g.row.T.Denot) → g.T.Take.has_taken start datagrams l.initial.taker → g.T.Take.has_taken start more l.taker)
    × blocks.CameSo l.limits captures before (g.R.Read.remaining l.input) l.reader more

abbrev pub decreases-datagrams : goal.decreases-datagrams
decreases-datagrams g l = 2 ^ 64 - l.reader.frames.place
