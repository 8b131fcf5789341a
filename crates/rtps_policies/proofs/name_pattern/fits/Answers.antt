use Rattle.std.proofs.Common.{◌∙◌, sym}
use Rattle.rtps_policies.proofs.SegmentLemmas.{many_fits}
use Rattle.rtps_policies.proofs.name_pattern.fits.Goals as goal

pub returns-in-Many : goal.returns-in-Many
returns-in-Many c =
    c.fits_behind.ensures ∙ sym (many_fits c.args.pattern.now c.args.name.now c.in-Many.behind.now c.in-Many.left.now c.in-Many.ensures.0 c.in-Many.ensures.1 c.in-Many.ensures.2)
