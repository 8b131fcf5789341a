use Rattle.std.proofs.Common.{◌≡◌, ℕ, ◌||◌}
use Rattle.std.specs.List.{list_any}
use Rattle.rtps_coverage.specs.Stretches as stretches
use Rattle.rtps_known.specs.Bulletins as bulletins
use Rattle.rtps_known.proofs.bulletin.Bulletin.told_to.Given as goal

-- what is told, or is among what is left
abbrev pub invariant-loop-telling : goal.invariant-loop-telling
invariant-loop-telling l =
    (n : ℕ) → (stretches.stretches_have l.told.items n || list_any (bulletins.reaches l.prefix l.end n) l.telling-iterator) ≡ list_any (bulletins.reaches l.prefix l.end n) l.self.told.entries
