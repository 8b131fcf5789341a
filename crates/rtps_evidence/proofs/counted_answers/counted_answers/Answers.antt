use Rattle.std.proofs.Common.{◌≡◌, ◌∙◌, ◌+◌, ◌++◌, ◌∷◌, [], List, ap, arith, drop, map, subst, sym, take}
use Rattle.std.specs.List.{filter_map}
use Rattle.std.proofs.lemmas.List.{take_all}
use Rattle.rtps_audit.specs.Placed as placed
use Rattle.rtps_evidence.specs.CountedAnswers as counted_answers
use Rattle.rtps_evidence.proofs.CountedLemmas.{AreCountedSoFar, among_own, counted_on, split_at}
use Rattle.rtps_evidence.proofs.RequestLemmas.{taken_more}
use Rattle.rtps_evidence.proofs.counted_answers.counted_answers.Goals as goal

pub loop-placed-init : goal.loop-placed-init
loop-placed-init c = λ recording is. record { requests = c.none-requests.ensures c.args.pair; counted = c.new-counted.ensures.items }

pub loop-placed-preserved : goal.loop-placed-preserved
loop-placed-preserved c = λ recording is.
    let pair = c.args.pair in
    let acts = c.args.acts.now in
    let i = c.loop-placed.placed-index in
    let x = placed.placed_value c.placed-item.result in
    let xs : List placed.PlacedValue = map placed.placed_value (take i acts) in
    let ys : List placed.PlacedValue = map placed.placed_value (drop (i + 1) acts) in
    let more : map placed.placed_value (take (i + 1) acts) ≡ xs ++ x ∷ [] = taken_more acts i c.placed-item.result c.loop-placed-test.true c.placed-item.is in
    let split : map placed.placed_value acts ≡ xs ++ x ∷ ys = split_at acts i c.placed-item.result c.loop-placed-test.true c.placed-item.is in
    subst (λ l. AreCountedSoFar pair (map placed.placed_value acts) l c.with-requests.result c.push_answer.new.counted.items) (sym more)
    (counted_on pair (map placed.placed_value acts) xs x ys c.loop-placed.counted.items c.push_answer.new.counted.items c.loop-placed.requests c.with-requests.result split
    (among_own pair recording (map placed.placed_value acts) xs x ys is split) (c.loop-placed.invariant recording is)
    (λ onward. c.with-requests.ensures xs onward (among_own pair recording (map placed.placed_value acts) xs x ys is split).own (c.loop-placed.invariant recording is).requests)
    c.in_ok-push_answer.ensures)

pub returns : goal.returns
returns c = λ recording is.
    (c.loop-placed.invariant recording is).counted
    ∙ ap (λ l. filter_map (counted_answers.counted_of c.args.pair (map placed.placed_value c.args.acts.now)) (map placed.placed_value l)) (take_all c.loop-placed.placed-index c.args.acts.now (omega (arith, c.loop-placed-test.false)))
