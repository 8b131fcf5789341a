use Rattle.std.proofs.Common.{◌≡◌, ◌++◌, map, take}
use Rattle.std.specs.List.{flat_map}
use Rattle.std.specs.String.{string_bytes}
use Rattle.rtps_report.specs.Talk as talk
use Rattle.rtps_lines.specs.Notes as notes
use Rattle.rtps_lines.proofs.talk_notes.push_left_out.Given as goal

abbrev pub invariant-loop-silence : goal.invariant-loop-silence
invariant-loop-silence l =
    map string_bytes l.notes.items
    ≡ map string_bytes l.initial.notes.items ++ flat_map (notes.silent_note l.told.named (talk.talk_value l.told.talk.now).silence (map talk.left_out_value l.told.left_out.now)) (take l.silence-index l.silence-items)
