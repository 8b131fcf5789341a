use Rattle.std.proofs.Common.{ap, sym, ◌∙◌}
use Rattle.std.specs.Cmp.{both_tied}
use Rattle.std.specs.Cmp.Lexicographic.{texts_ties}
use Rattle.std.specs.Ordering.{is_eq}
use Rattle.rtps_ids.proofs.identity.GuidPartialEq.eq.Goals as goal

pub returns : goal.returns
returns c =
    c.is_eq.ensures ∙ ap is_eq c.cmp.ensures
    ∙ sym (both_tied _ _ _ _ (texts_ties c.args.self.now.prefix.0 c.args.other.now.prefix.0) (texts_ties c.args.self.now.entity.0 c.args.other.now.entity.0))
