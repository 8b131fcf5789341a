use Rattle.std.proofs.Common.{◌≡◌, ◌+◌, ◌∙◌, sym, ap, subst, take, drop, get_or}
use Rattle.std.specs.Global.{Vec}
use Rattle.rtps_coverage.specs.Ranges as ranges
use Rattle.rtps_coverage.specs.Leaves as leaves_spec
use Rattle.rtps_coverage.specs.declared.stretch.Stretch.{Stretch}
use Rattle.rtps_coverage.proofs.RangesLemmas.{apart_right, err_both, err_then, ok_then}
use Rattle.rtps_coverage.proofs.LeavesLemmas.{IsMid, clear_of_all, counted, end_bounded, joined, leaf_apart, same_leaf, split_after, untouched}
use Rattle.rtps_coverage.proofs.leaves.join_at.Goals as goal

pub absorb_leaves-end-requires-clause-apart : goal.absorb_leaves-end-requires-clause-apart
absorb_leaves-end-requires-clause-apart c =
    let old = c.args.leaves.now.items in
    let place = c.args.place in
    apart_right (leaves_spec.ranges_in (take (place + 1) old)) (leaves_spec.ranges_in (drop (place + 1) old)) (subst ranges.AreApart (split_after old (place + 1)) c.requires.kept.apart)

pub join-requires-clause-apart : goal.join-requires-clause-apart
join-requires-clause-apart c =
    let old = c.args.leaves.now.items in
    let mid = c.absorb_leaves-end.new.leaves.items in
    let place = c.args.place in
    let leaf = c.index_mut.result.now in
    let here : leaf ≡ get_or old place leaf = c.index_mut.ensures.value ∙ same_leaf old mid place leaf c.absorb_leaves-end.ensures.front in
    subst (λ (l : Vec Stretch). ranges.AreApart l.items) (sym here) (leaf_apart old place leaf c.requires.place.within c.requires.kept.apart)

pub join-requires-clause-joined : goal.join-requires-clause-joined
join-requires-clause-joined c =
    let old = c.args.leaves.now.items in
    let mid = c.absorb_leaves-end.new.leaves.items in
    let end = c.absorb_leaves-end.result in
    let is : IsMid old mid c.args.place c.args.hi end = record { front = c.absorb_leaves-end.ensures.front; absorbs = c.absorb_leaves-end.ensures.absorbs; past = c.absorb_leaves-end.ensures.past } in
    end_bounded old mid c.args.place c.args.lo c.args.hi end c.index_mut.result.now c.requires.kept c.requires.place.within c.requires.joined is

pub returns-clause-joins : goal.returns-clause-joins
returns-clause-joins c =
    let old = c.args.leaves.now.items in
    let mid = c.absorb_leaves-end.new.leaves.items in
    let end = c.absorb_leaves-end.result in
    let leaf = c.index_mut.result.now in
    let new = c.join.new.ranges in
    let here : leaf ≡ get_or old c.args.place leaf = c.index_mut.ensures.value ∙ same_leaf old mid c.args.place leaf c.absorb_leaves-end.ensures.front in
    let is : IsMid old mid c.args.place c.args.hi end = record { front = c.absorb_leaves-end.ensures.front; absorbs = c.absorb_leaves-end.ensures.absorbs; past = c.absorb_leaves-end.ensures.past } in
    ok_then c.join.result
    (λ joins. joined old mid c.args.place c.args.lo c.args.hi end leaf new c.requires.kept c.requires.place c.requires.joined is (subst (λ (l : Vec Stretch). ranges.Joins l.items new.items c.args.lo end) here joins))
    c.join.ensures.joins

pub returns-clause-counts : goal.returns-clause-counts
returns-clause-counts c =
    let old = c.args.leaves.now.items in
    let mid = c.absorb_leaves-end.new.leaves.items in
    let end = c.absorb_leaves-end.result in
    let leaf = c.index_mut.result.now in
    let new = c.join.new.ranges in
    let here : leaf ≡ get_or old c.args.place leaf = c.index_mut.ensures.value ∙ same_leaf old mid c.args.place leaf c.absorb_leaves-end.ensures.front in
    let is : IsMid old mid c.args.place c.args.hi end = record { front = c.absorb_leaves-end.ensures.front; absorbs = c.absorb_leaves-end.ensures.absorbs; past = c.absorb_leaves-end.ensures.past } in
    ok_then c.join.result
    (λ counts. counted old mid c.args.place c.args.lo c.args.hi end leaf new c.requires.kept c.requires.place is (subst (λ (l : Vec Stretch). ranges.Counts l.items new.items c.args.lo end) here counts))
    c.join.ensures.counts

pub returns-clause-same : goal.returns-clause-same
returns-clause-same c =
    let old = c.args.leaves.now.items in
    let mid = c.absorb_leaves-end.new.leaves.items in
    let end = c.absorb_leaves-end.result in
    let leaf = c.index_mut.result.now in
    let new = c.join.new.ranges in
    let here : leaf ≡ get_or old c.args.place leaf = c.index_mut.ensures.value ∙ same_leaf old mid c.args.place leaf c.absorb_leaves-end.ensures.front in
    let is : IsMid old mid c.args.place c.args.hi end = record { front = c.absorb_leaves-end.ensures.front; absorbs = c.absorb_leaves-end.ensures.absorbs; past = c.absorb_leaves-end.ensures.past } in
    err_both c.join.result
    (λ same clear. untouched old mid c.args.place c.args.lo c.args.hi end leaf new c.requires.kept c.requires.place is (subst (λ (l : Vec Stretch). ranges.AreClear c.args.lo end l.items) here clear) (same ∙ ap (λ (l : Vec Stretch). l.items) here))
    c.join.ensures.same c.join.ensures.clear

pub returns-clause-clear : goal.returns-clause-clear
returns-clause-clear c =
    let old = c.args.leaves.now.items in
    let mid = c.absorb_leaves-end.new.leaves.items in
    let end = c.absorb_leaves-end.result in
    let leaf = c.index_mut.result.now in
    let here : leaf ≡ get_or old c.args.place leaf = c.index_mut.ensures.value ∙ same_leaf old mid c.args.place leaf c.absorb_leaves-end.ensures.front in
    err_then c.join.result
    (λ clear. clear_of_all old c.args.place c.args.lo c.args.hi end leaf (leaves_spec.ranges_in (drop (c.args.place + 1) mid)) c.requires.kept c.requires.place c.absorb_leaves-end.ensures.absorbs c.absorb_leaves-end.ensures.past
    (subst (λ (l : Vec Stretch). ranges.AreClear c.args.lo end l.items) here clear))
    c.join.ensures.clear
