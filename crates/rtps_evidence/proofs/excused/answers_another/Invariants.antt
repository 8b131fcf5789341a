use Rattle.std.proofs.Common.{◌≡◌, List, false, filter, map, take}
use Rattle.std.specs.List.{list_any}
use Rattle.rtps_audit.specs.Placed as placed_spec
use Rattle.rtps_evidence.specs.LostAnswers as lost_answers
use Rattle.rtps_evidence.proofs.excused.answers_another.Given as goal

-- none so far answers another writer
abbrev pub invariant-loop-placed : goal.invariant-loop-placed
invariant-loop-placed l = (placed : List placed_spec.PlacedValue) → map placed_spec.placed_value l.acts ≡ filter (placed_spec.is_from l.fn.pair.reader) placed → list_any (lost_answers.answers_another l.fn.pair.writer l.fn.pair.reader) (map placed_spec.placed_value (take l.placed-index l.acts)) ≡ false
