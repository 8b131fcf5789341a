use Rattle.std.proofs.Common.{◌≡◌, ◌≤◌, ◌*◌, map, take}
use Rattle.std.specs.Prelude.{sum_by}
use Rattle.rtps_report.specs.NotTold as not_told
use Rattle.rtps_report.proofs.not_told.endpoints_among.Given as goal

-- those so far
abbrev pub invariant-loop-one : goal.invariant-loop-one
invariant-loop-one l =
    (l.endpoints ≡ sum_by not_told.endpoints_of (map not_told.not_told_value (take l.one-index l.found))) × (l.endpoints ≤ l.one-index * 18446744073709551615)
