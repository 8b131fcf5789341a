use Rattle.std.proofs.Common.{◌≡◌, ◌++◌, length, string_bytes}
use Rattle.rtps_wire.specs.Reading as reading
use Rattle.rtps_text.specs.ShowText as show_text
use Rattle.rtps_text.proofs.text.show_text.push_items.Given as goal

abbrev pub invariant-items : goal.invariant-items
invariant-items l =
    (string_bytes l.text ++ show_text.outcomes_text (show_text.fragments_at l.datagram.fragments l.datagram.octets.now) l.state (reading.outcomes_left l.items) ≡ string_bytes l.initial.text ++ show_text.outcomes_text (show_text.fragments_at l.datagram.fragments l.datagram.octets.now) l.fn.start (reading.outcomes_left l.fn.items))
    × show_text.IsTailIn l.state (string_bytes l.tail)

abbrev pub decreases-items : goal.decreases-items
decreases-items l = length (reading.outcomes_left l.items)
