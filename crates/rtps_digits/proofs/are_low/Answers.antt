use Rattle.rtps_digits.proofs.Lanes.{low_mask}
use Rattle.rtps_digits.proofs.are_low.Goals as goal

pub returns : goal.returns
returns c = low_mask c.args.values c.fits-values.0
