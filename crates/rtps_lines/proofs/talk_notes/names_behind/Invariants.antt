use Rattle.std.proofs.Common.{◌≡◌, ◌++◌, None, length, map, option_copied, string_bytes}
use Rattle.std.specs.Vec.Iter.{into_iter_items, into_iter_len}
use Rattle.rtps_report.specs.Talk as talk
use Rattle.rtps_lines.specs.Notes as notes
use Rattle.rtps_lines.proofs.talk_notes.names_behind.Given as goal

-- the names of those that are left make the text whole
abbrev pub invariant-loop-one : goal.invariant-loop-one
invariant-loop-one l =
    (into_iter_len l.one-iterator ≡ length (into_iter_items l.one-iterator))
    × (string_bytes l.names ++ notes.names_behind (option_copied l.before) (map talk.left_out_value (into_iter_items l.one-iterator))
    ≡ string_bytes l.initial.names ++ notes.names_behind None (map talk.left_out_value l.fn.pairs.items))
