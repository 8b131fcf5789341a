use Rattle.std.proofs.Common.{◌≡◌, None, false, ◌+◌, ◌-◌, ◌≤◌, ◌++◌, [], List, ℕ, Option, take}
use Rattle.std.specs.Io.KnownBytes.{Consumes}
use Rattle.std.specs.List.{position}
use Rattle.rtps_capture.specs.Course as course
use Rattle.rtps_tool.specs.Forms as forms
use Rattle.rtps_tool.specs.Lines as lines
use Rattle.rtps_tool.specs.Unfinished as unfinished
use Rattle.rtps_tool.proofs.ReadingLemmas.{HasRead}
use Rattle.rtps_tool.proofs.streams.take_text.Given as goal

-- the front of what is held is all of the text behind the lines that were read: what is kept of it, and what was got
abbrev pub invariant-pieces : goal.invariant-pieces
invariant-pieces g l =
    (l.kept ≤ 131071) × (l.kept + l.got ≤ 196607) × (l.reader.lines + (l.kept + l.got) ≤ l.total)
    × (position lines.is_line_feed (take l.kept l.held) ≡ None)
    × ((before : Option (List ℕ)) (first : g.row.T.Denot) → forms.begins_capture l.terms.captures (take l.start l.initial.held) ≡ false
    → Consumes before (g.R.Read.remaining l.initial.input) (take l.start l.initial.held) → g.T.Take.has_taken first [] l.initial.taker
    → (done : List (List ℕ)) × unfinished.HasTold (λ (told : List course.DatagramValue). g.T.Take.has_taken first told l.taker) l.reader done
    × HasRead l.terms.limits l.terms.captures before (g.R.Read.remaining l.input) l.total (λ later. unfinished.recording_behind l.terms.limits.datagrams done l.reader.lines (take (l.kept + l.got) l.held ++ later)))

-- the octets that may still come
abbrev pub decreases-pieces : goal.decreases-pieces
decreases-pieces g l = l.terms.limits.octets + 1 - l.total
