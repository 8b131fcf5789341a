use Rattle.std.proofs.Common.{get_or, subst, sym}
use Rattle.rtps_audit.specs.Placed as placed_spec
use Rattle.rtps_passes.specs.Comparison as comparison
use Rattle.rtps_passes.proofs.ComparisonLemmas.{nothing_asked}
use Rattle.rtps_passes.proofs.comparison.Comparison.of.Goals as goal

pub returns-clause-unquestioned : goal.returns-clause-unquestioned
returns-clause-unquestioned c = λ none from pairs recording known.
    let writers = c.args.judging.now.writers.items in
    let placed = placed_spec.placed_in recording in
    record {
      judging = known;
      kept = subst (comparison.HaveKept writers placed) (sym c.new.ensures.items) (λ place d lt. nothing_asked from c.args.judging.now.datagrams placed (get_or writers place d) (none place d lt) (known.taken.each place d lt));
    }
