use Rattle.std.proofs.Common.{◌++◌, All, List, map, take}
use Rattle.rtps_discovery.specs.declared.matching.Pair.{Pair}
use Rattle.rtps_evidence.specs.Together as together
use Rattle.rtps_evidence.specs.declared.docket.Docket.{Docket}
use Rattle.rtps_evidence.proofs.explanation.ExplainedRows.add_alone.Given as goal

-- the rows of the dockets so far are added
abbrev pub invariant-loop-docket : goal.invariant-loop-docket
invariant-loop-docket l =
    (setting : together.Setting) (pairs : List Pair) → together.AreSidesIn setting l.sides → All (together.IsDocket setting) l.dockets
    → together.AreRows setting pairs l.fn.self → together.AreRows setting (pairs ++ map (λ (docket : Docket). docket.judgement.pair) (take l.docket-index l.dockets)) l.self
