use Rattle.std.proofs.Common.{◌≡◌, false, take}
use Rattle.rtps_report.specs.Silences as silences
use Rattle.rtps_report.proofs.silences.is_one_way.Given as goal

-- none so far
abbrev pub invariant-loop-one : goal.invariant-loop-one
invariant-loop-one l = silences.is_one_way (take l.one-index l.found) l.source l.dest ≡ false
