use Rattle.std.proofs.Common.{◌∙◌, ap}
use Rattle.rtps_passes.specs.Comparison as comparison
use Rattle.rtps_passes.proofs.ComparisonLemmas.{nothing_more}
use Rattle.rtps_passes.proofs.comparison.Comparison.reach.Goals as goal

pub places-preserved : goal.places-preserved
places-preserved c = record {
  judging = c.places.invariant.judging;
  same = λ other. ap (λ l. comparison.kept_at l other) c.in_ok-push.ensures.items ∙ nothing_more c.places.self.kept.items c.new.result c.new.ensures other ∙ c.places.invariant.same other;
}
