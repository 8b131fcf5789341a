use Rattle.std.proofs.Common.{◌≡◌, ◌++◌, map, take}
use Rattle.rtps_policies.specs.Fitting as fitting
use Rattle.rtps_policies.specs.Unmatched as unmatched
use Rattle.rtps_policies.proofs.unmatched.push_unmatched.Given as goal

-- those of the readers so far
abbrev pub invariant-loop-reader : goal.invariant-loop-reader
invariant-loop-reader l =
    map unmatched.unmatched_value l.found.items ≡ map unmatched.unmatched_value l.initial.found.items ++ unmatched.unmatched_with (fitting.profile_value l.writer) (map fitting.profile_value (take l.reader-index l.readers))
