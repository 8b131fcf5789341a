use Rattle.std.proofs.Common.{◌≡◌, ◌++◌, map, take}
use Rattle.std.specs.List.{flat_map}
use Rattle.std.specs.Prelude.{codes}
use Rattle.std.specs.String.{string_bytes}
use Rattle.rtps_report.specs.BestEfforts as best_efforts
use Rattle.rtps_lines.specs.Notes as notes
use Rattle.rtps_lines.proofs.notes.shares_of.Given as goal

abbrev pub invariant-loop-other : goal.invariant-loop-other
invariant-loop-other l =
    string_bytes l.shares ≡ string_bytes l.initial.shares ++ flat_map (notes.share_text (codes ", ")) (map best_efforts.best_effort_value (take l.other-index l.others))
