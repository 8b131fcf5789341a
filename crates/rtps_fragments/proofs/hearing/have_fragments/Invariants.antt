use Rattle.std.proofs.Common.{◌≡◌, false, map, take}
use Rattle.std.specs.List.{list_any}
use Rattle.rtps_audit.specs.Placed as placed_spec
use Rattle.rtps_fragments.specs.Hearing as hearing_spec
use Rattle.rtps_fragments.proofs.hearing.have_fragments.Given as goal

-- none of the acts so far sends some
abbrev pub invariant-loop-placed : goal.invariant-loop-placed
invariant-loop-placed l = list_any (λ at. hearing_spec.sends_fragments at.act.body) (map placed_spec.placed_value (take l.placed-index l.acts)) ≡ false
