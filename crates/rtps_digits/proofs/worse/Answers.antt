use Rattle.std.proofs.Common.{sym, ◌∙◌}
use Rattle.rtps_digits.proofs.Lanes.{worse_low}
use Rattle.rtps_digits.proofs.worse.Goals as goal

pub returns : goal.returns
returns c = worse_low c.args.a c.args.b (c.fits-a.0 ∙ sym c.fits-b.0)
