use Rattle.std.proofs.Common.{◌≡◌, take}
use Rattle.std.specs.BTreeSet.{contains}
use Rattle.std.specs.List.{list_any}
use Rattle.std.specs.Ordering.{is_eq}
use Rattle.rtps_ids.specs.declared.identity.GuidPrefix.{GuidPrefix}
use Rattle.rtps_known.specs.Bulletins as bulletins
use Rattle.rtps_known.proofs.untold.participants_of.Given as goal

-- those of the lives so far
abbrev pub invariant-loop-life : goal.invariant-loop-life
invariant-loop-life l =
    (prefix : GuidPrefix) → contains bulletins.prefix_cmp l.participants prefix ≡ list_any (λ life. is_eq (bulletins.prefix_cmp life.participant prefix)) (take l.life-index l.lives)
