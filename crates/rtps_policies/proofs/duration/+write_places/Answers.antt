use Rattle.std.proofs.Common.{◌<◌, subst, sym}
use Rattle.rtps_policies.proofs.duration.+write_places.Goals as goal
use Rattle.rtps_policies.proofs.WritingLemmas.{ten_power}

pub nonzero_div-number : goal.nonzero_div-number
nonzero_div-number g t c = subst (λ unit. 0 < unit) (sym c.pow-unit.ensures) (ten_power _)

pub nonzero_rem-number : goal.nonzero_rem-number
nonzero_rem-number g t c = subst (λ unit. 0 < unit) (sym c.pow-unit.ensures) (ten_power _)
