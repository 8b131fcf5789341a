use Rattle.std.proofs.Common.{◌<◌, ◌≤◌, ◌∙◌, ◌++◌, ap, arith, length, subst, sym, take}
use Rattle.std.specs.Prelude.{flat_map}
use Rattle.std.proofs.lemmas.List.{take_all}
use Rattle.rtps_audit.specs.Account as account
use Rattle.rtps_passes.specs.Judging as judging
use Rattle.rtps_passes.proofs.ComparisonLemmas.{pairs_more, rows_joined}
use Rattle.rtps_passes.proofs.KeptLemmas.{element}
use Rattle.rtps_passes.proofs.comparison.Comparison.rows.Goals as goal

pub loop-place-preserved : goal.loop-place-preserved
loop-place-preserved c = λ from pairs recording known.
    let writers = c.args.self.now.judging.now.writers.items in
    let place = c.loop-place.place in
    let lt : place < length writers = omega (arith, c.loop-place-test.true, c.len-place-end.ensures) in
    let d = (element writers place lt).0 in
    subst (λ l. account.AreRowsOf from recording l c.extend_from_slice.new.self.items) (sym (pairs_more writers place d lt))
    (rows_joined from recording (flat_map judging.pairs_of (take place writers)) _ c.loop-place.rows.items c.in_ok-more.more.items _ (c.in_ok-extend_from_slice.ensures.items ∙ ap (λ l. c.loop-place.rows.items ++ l) c.deref.ensures.value) (c.loop-place.invariant from pairs recording known)
    (c.in_ok-more.ensures from pairs recording d known))

pub returns : goal.returns
returns c = λ from pairs recording known.
    let writers = c.args.self.now.judging.now.writers.items in
    let all : length writers ≤ c.loop-place.place = omega (arith, c.loop-place-test.false, c.len-place-end.ensures) in
    subst (λ l. account.AreRowsOf from recording l c.loop-place.rows.items) (ap (flat_map judging.pairs_of) (take_all c.loop-place.place writers all) ∙ known.judging.taken.pairs_are) (c.loop-place.invariant from pairs recording known)
