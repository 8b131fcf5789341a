use Rattle.std.proofs.Common.{◌<◌}
use Rattle.std.specs.List.{All}
use Rattle.rtps_audit.specs.Index as index
use Rattle.rtps_audit.specs.Intake as intake
use Rattle.rtps_audit.specs.declared.ask.Ask.{Ask}
use Rattle.rtps_audit.proofs.AskLemmas.{AreFirstAsks}
use Rattle.rtps_audit.proofs.ask.Ask.all_of.Given as goal

-- the asks of the pairs so far
abbrev pub invariant-loop-place : goal.invariant-loop-place
invariant-loop-place l = record {
  asks : (intake : intake.Intake) → index.IsIndexBy intake l.index → AreFirstAsks intake.acts l.pairs l.asks.items l.place;
  within : All (λ (ask : Ask). ask.place < l.place) l.asks.items;
}
