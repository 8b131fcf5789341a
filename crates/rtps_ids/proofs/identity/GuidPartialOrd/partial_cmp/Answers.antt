use Rattle.std.proofs.Common.{Some, ap, sym, ◌∙◌}
use Rattle.std.specs.Cmp.{Some-then}
use Rattle.rtps_ids.proofs.identity.GuidPartialOrd.partial_cmp.Goals as goal

pub returns : goal.returns
returns c = ap Some c.cmp.ensures ∙ sym (Some-then _ _)
