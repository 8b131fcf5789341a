use Rattle.std.proofs.Common.{◌≡◌, false, map, take}
use Rattle.std.specs.List.{list_any}
use Rattle.rtps_report.specs.NotTold as not_told
use Rattle.rtps_report.proofs.not_told.is_not_told_of.Given as goal

-- none so far
abbrev pub invariant-loop-one : goal.invariant-loop-one
invariant-loop-one l = list_any (not_told.is_between l.from l.to) (map not_told.not_told_value (take l.one-index l.found)) ≡ false
