use Rattle.std.proofs.Common.{◌≡◌, ◌<◌, ◌+◌, ◌++◌, ◌∙◌, sym, subst, take, drop, get_or, length, All, rules, arith}
use Rattle.std.specs.Global.{Vec}
use Rattle.std.proofs.lemmas.List.{nil_from_length, take-append-drop}
use Rattle.std.proofs.lemmas.List.Elements.{All-append, All-drop, All-take}
use Rattle.rtps_coverage.specs.Ranges as ranges
use Rattle.rtps_coverage.specs.Leaves as leaves_spec
use Rattle.rtps_coverage.specs.declared.stretch.Stretch.{Stretch}
use Rattle.rtps_coverage.proofs.RangesLemmas.{apart_left, apart_right}
use Rattle.rtps_coverage.proofs.LeavesLemmas.{absorbs_first, apart_rest, emptied, from_place, past_both, written_from}
use Rattle.rtps_coverage.proofs.leaves.absorb_leaves.Goals as goal

pub absorb-end-requires-clause-apart : goal.absorb-end-requires-clause-apart
absorb-end-requires-clause-apart c =
    let old = c.later.leaves.items in
    let place = c.args.place in
    let leaf = c.index_mut.result.now in
    let lt : place < length old = omega (arith, c.later-test.true, c.len.ensures) in
    let here : leaf ≡ get_or old place leaf = c.index_mut.ensures.value in
    subst (λ (l : Vec Stretch). ranges.AreApart l.items) (sym here)
    (apart_left (get_or old place leaf).items (leaves_spec.ranges_in (drop (place + 1) old)) (subst ranges.AreApart (from_place old place leaf lt) c.later.invariant.apart))

pub returns-then-not-is_empty-clause-absorbs : goal.returns-then-not-is_empty-clause-absorbs
returns-then-not-is_empty-clause-absorbs c =
    let was = leaves_spec.ranges_in (drop c.args.place c.args.leaves.now.items) in
    let old = c.later.leaves.items in
    let place = c.args.place in
    let leaf = c.index_mut.result.now in
    let new = c.absorb-end.new.ranges in
    let end = c.later.end in
    let end' = c.absorb-end.result in
    let lt : place < length old = omega (arith, c.later-test.true, c.len.ensures) in
    let here : leaf ≡ get_or old place leaf = c.index_mut.ensures.value in
    let taken = subst (λ (l : Vec Stretch). ranges.Absorbs l.items new.items end end') here c.absorb-end.ensures.absorbs in
    let whole = subst (λ l. ranges.Absorbs was l c.args.hi end) (from_place old place leaf lt) c.later.invariant.absorbs in
    subst (λ l. ranges.Absorbs was l c.args.hi end') (sym (written_from old place new lt))
    (absorbs_first was (get_or old place leaf).items (leaves_spec.ranges_in (drop (place + 1) old)) new.items c.args.hi end end' whole taken)

pub returns-then-not-is_empty-clause-past : goal.returns-then-not-is_empty-clause-past
returns-then-not-is_empty-clause-past c =
    let old = c.later.leaves.items in
    let place = c.args.place in
    let leaf = c.index_mut.result.now in
    let new = c.absorb-end.new.ranges in
    let end = c.later.end in
    let end' = c.absorb-end.result in
    let lt : place < length old = omega (arith, c.later-test.true, c.len.ensures) in
    let here : leaf ≡ get_or old place leaf = c.index_mut.ensures.value in
    let taken = subst (λ (l : Vec Stretch). ranges.Absorbs l.items new.items end end') here c.absorb-end.ensures.absorbs in
    let x = (get_or old place leaf).items in
    let later = leaves_spec.ranges_in (drop (place + 1) old) in
    let apart = apart_rest x later new.items end end' (subst ranges.AreApart (from_place old place leaf lt) c.later.invariant.apart) taken in
    let filled : 0 < length new.items = search rules in
    subst (ranges.BeginPast end') (sym (written_from old place new lt)) (past_both end' new.items later filled apart c.absorb-end.ensures.past)

pub later-preserved : goal.later-preserved
later-preserved c =
    let was = leaves_spec.ranges_in (drop c.args.place c.args.leaves.now.items) in
    let old = c.later.leaves.items in
    let place = c.args.place in
    let leaf = c.index_mut.result.now in
    let new = c.absorb-end.new.ranges in
    let end = c.later.end in
    let end' = c.absorb-end.result in
    let known = c.later.invariant in
    let lt : place < length old = omega (arith, c.later-test.true, c.len.ensures) in
    let here : leaf ≡ get_or old place leaf = c.index_mut.ensures.value in
    let taken = subst (λ (l : Vec Stretch). ranges.Absorbs l.items new.items end end') here c.absorb-end.ensures.absorbs in
    let whole = subst (λ l. ranges.Absorbs was l c.args.hi end) (from_place old place leaf lt) known.absorbs in
    let x = (get_or old place leaf).items in
    let later = leaves_spec.ranges_in (drop (place + 1) old) in
    let left = c.remove.new.self.items in
    let gone = emptied old left place new lt c.remove.ensures.items in
    let none : length new.items ≡ 0 = search rules in
    let both = absorbs_first was x later new.items c.args.hi end end' whole taken in
    let P : Vec Stretch → Type 0 = λ (l : Vec Stretch). 0 < length l.items in
    record {
      place = omega (arith, gone.2, lt);
      front = gone.0 ∙ known.front;
      filled = subst (All P) (take-append-drop place left) (All-append P (take place left) (drop place left) (subst (All P) (sym gone.0) (All-take P place old known.filled)) (subst (All P) (sym gone.1) (All-drop P (place + 1) old known.filled)));
      apart = subst (λ l. ranges.AreApart (leaves_spec.ranges_in l)) (sym gone.1) (apart_right x later (subst ranges.AreApart (from_place old place leaf lt) known.apart));
      absorbs = subst (λ l. ranges.Absorbs was (leaves_spec.ranges_in l) c.args.hi end') (sym gone.1) (subst (λ l. ranges.Absorbs was (l ++ later) c.args.hi end') (nil_from_length new.items none) both);
    }
