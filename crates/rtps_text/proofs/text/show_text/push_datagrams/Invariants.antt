use Rattle.std.proofs.Common.{◌≡◌, ◌++◌, ◌+◌, length, string_bytes}
use Rattle.rtps_text.specs.ShowText as show_text
use Rattle.rtps_text.proofs.text.show_text.push_datagrams.Given as goal

abbrev pub invariant-loop-octets : goal.invariant-loop-octets
invariant-loop-octets l =
    (goal.iterator-loop-octets).can_next l.octets-iterator
    × (goal.iterator-loop-octets).is_finite l.octets-iterator
    × (l.number + length l.octets-iterator ≡ length l.recording.datagrams)
    × (string_bytes l.text ++ show_text.text_from l.fragments (l.number + 1) l.octets-iterator ≡ string_bytes l.initial.text ++ show_text.text_from l.fragments 1 l.recording.datagrams)
