use denote.Shadow.{shadow}
use denote.Text.{Utf8}
use Rattle.std.proofs.Common.{◌≡◌, ◌++◌, codes, length, map, string_bytes}
use Rattle.std.specs.Vec.Iter.{into_iter_items, into_iter_len}
use Rattle.rtps_policies.specs.Unmatched as unmatched
use Rattle.rtps_lines.specs.Notes as notes
use Rattle.rtps_lines.proofs.talk_notes.talking_names.Given as goal

-- the names of those that are left make the text whole
abbrev pub invariant-loop-one : goal.invariant-loop-one
invariant-loop-one l =
    (into_iter_len l.one-iterator ≡ length (into_iter_items l.one-iterator))
    × shadow (Utf8 l.separator)
    × (string_bytes l.names ++ notes.talking_behind l.separator (map (λ one. unmatched.unmatched_value one.now) (into_iter_items l.one-iterator))
    ≡ string_bytes l.initial.names ++ notes.talking_behind (codes ": ") (map (λ one. unmatched.unmatched_value one.now) l.fn.talking.items))
