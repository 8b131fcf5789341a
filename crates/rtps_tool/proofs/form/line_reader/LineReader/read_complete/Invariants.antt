use Rattle.std.proofs.Common.{◌≡◌, ◌+◌, ◌-◌, ◌≤◌, List, ℕ, length, take, drop, None}
use Rattle.std.specs.List.{position}
use Rattle.rtps_capture.specs.Course as course
use Rattle.rtps_tool.specs.Lines as lines
use Rattle.rtps_tool.specs.Unfinished as unfinished
use Rattle.rtps_tool.proofs.form.line_reader.LineReader.read_complete.Given as goal

-- what was read, in front of what is left and comes later, is what the text and that stand for
abbrev pub invariant-lines : goal.invariant-lines
invariant-lines g l =
    (l.from ≤ length l.text) × (l.self.lines ≤ l.initial.self.lines + l.from)
    × (l.from + l.known ≤ length l.text) × (position lines.is_line_feed (take l.known (drop l.from l.text)) ≡ None)
    × ((done : List (List ℕ)) (start : g.row.T.Denot) → unfinished.HasTold (λ (told : List course.DatagramValue). g.T.Take.has_taken start told l.initial.taker) l.initial.self done
    → unfinished.IsReadUpTo l.most done l.initial.self l.text (λ (told : List course.DatagramValue). g.T.Take.has_taken start told l.taker) l.self (drop l.from l.text))

abbrev pub decreases-lines : goal.decreases-lines
decreases-lines g l = length l.text - l.from
