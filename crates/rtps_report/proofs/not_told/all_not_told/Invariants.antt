use Rattle.std.proofs.Common.{◌≡◌, map, take}
use Rattle.rtps_report.specs.NotTold as not_told
use Rattle.rtps_report.proofs.not_told.all_not_told.Given as goal

-- those so far
abbrev pub invariant-loop-untold : goal.invariant-loop-untold
invariant-loop-untold l = map not_told.not_told_value l.found.items ≡ map (not_told.not_told_by l.directory.endpoints) (take l.untold-index l.all)
