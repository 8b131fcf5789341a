use Rattle.rtps_report.proofs.PatternLemmas.{fits_as_filled as as_filled}
use Rattle.rtps_report.proofs.laws.fits_as_filled.Goals as goal

pub returns : goal.returns
returns c = as_filled
