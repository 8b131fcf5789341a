use Rattle.std.proofs.Common.{◌≡◌, map, take}
use Rattle.rtps_report.specs.Talk as talk
use Rattle.rtps_lines.specs.Notes as notes
use Rattle.rtps_lines.proofs.talk_notes.silent_among.Given as goal

-- those among the pairs so far
abbrev pub invariant-loop-one : goal.invariant-loop-one
invariant-loop-one l =
    map talk.left_out_value l.found.items ≡ notes.silent_in (talk.talk_value l.talk).silence l.silence (map talk.left_out_value (take l.one-index l.pairs))
