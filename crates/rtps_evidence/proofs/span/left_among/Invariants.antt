use Rattle.std.proofs.Common.{◌≡◌, map, take}
use Rattle.rtps_audit.specs.Placed as placed
use Rattle.std.specs.List.{find}
use Rattle.std.specs.Option.{option_map}
use Rattle.rtps_evidence.specs.Spans as spans
use Rattle.rtps_evidence.proofs.span.left_among.Given as goal

-- the first so far
abbrev pub invariant-loop-placed : goal.invariant-loop-placed
invariant-loop-placed l = l.left ≡ option_map (λ (at : placed.PlacedValue). at.datagram) (find (spans.leaves_behind l.fn.place l.fn.reader) (map placed.placed_value (take l.placed-index l.acts)))
