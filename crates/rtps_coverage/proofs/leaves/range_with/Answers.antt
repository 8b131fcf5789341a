use Rattle.std.proofs.Common.{◌≡◌, ◌<◌, ◌+◌, ◌∙◌, sym, ap, subst, get_or, length, length-drop, arith}
use Rattle.std.specs.Global.{Vec}
use Rattle.rtps_coverage.specs.Ranges as ranges
use Rattle.rtps_coverage.specs.declared.stretch.Stretch.{Stretch}
use Rattle.rtps_coverage.proofs.RangesLemmas.{apart_drop, past_at}
use Rattle.rtps_coverage.proofs.LeavesLemmas.{leaf_apart, none_in, one_in}
use Rattle.rtps_coverage.proofs.leaves.range_with.Goals as goal

pub place_for-place-requires : goal.place_for-place-requires
place_for-place-requires c =
    let all = c.args.leaves.now in
    let leaf = c.index-leaves-leaf_for.result in
    let here : leaf ≡ get_or all c.leaf_for.result leaf = c.index-leaves-leaf_for.is in
    let same = c.deref.ensures.value ∙ ap (λ (l : Vec Stretch). l.items) here in
    subst ranges.AreApart (sym same) (leaf_apart all c.leaf_for.result leaf c.leaf_for.ensures.within c.requires.kept.apart)

pub returns-then-place-len : goal.returns-then-place-len
returns-then-place-len c =
    let all = c.args.leaves.now in
    let place = c.leaf_for.result in
    let leaf = c.index-leaves-leaf_for.result in
    let here : leaf ≡ get_or all place leaf = c.index-leaves-leaf_for.is in
    let x = (get_or all place leaf).items in
    let same = c.deref.ensures.value ∙ ap (λ (l : Vec Stretch). l.items) here in
    let count = c.place_for-place.result in
    let parted = subst (λ l. ranges.AreParted (c.args.number + 1) l count) same c.place_for-place.ensures in
    let size = ap (λ (l : Vec Stretch). length l.items) here in
    let all_end = c.if-place-len.true in
    let len = c.len.ensures in
    none_in all place c.args.number count leaf c.requires.kept c.leaf_for.ensures parted (λ k e lt. let left = length-drop count x in absurd (omega (arith, lt, left, size, all_end, len)))

pub returns-then-number-range : goal.returns-then-number-range
returns-then-number-range c =
    let all = c.args.leaves.now in
    let place = c.leaf_for.result in
    let leaf = c.index-leaves-leaf_for.result in
    let here : leaf ≡ get_or all place leaf = c.index-leaves-leaf_for.is in
    let x = (get_or all place leaf).items in
    let same = c.deref.ensures.value ∙ ap (λ (l : Vec Stretch). l.items) here in
    let count = c.place_for-place.result in
    let parted = subst (λ l. ranges.AreParted (c.args.number + 1) l count) same c.place_for-place.ensures in
    let size = ap (λ (l : Vec Stretch). length l.items) here in
    let within = parted.within in
    let less = c.if-place-len.false in
    let len = c.len.ensures in
    let lt : count < length x = omega (arith, within, size, less, len) in
    let range = c.index-range.result.now in
    let is : range ≡ get_or x count range = c.index-range.ensures ∙ ap (λ (l : Vec Stretch). get_or l.items count range) here in
    let apart = leaf_apart all place leaf c.leaf_for.ensures.within c.requires.kept.apart in
    none_in all place c.args.number count leaf c.requires.kept c.leaf_for.ensures parted
    (past_at c.args.number count x range (apart_drop count x apart) lt (subst (λ (s : Stretch). c.args.number < s.lo) is c.if-number-range.true))

pub returns-else-number-range : goal.returns-else-number-range
returns-else-number-range c =
    let all = c.args.leaves.now in
    let place = c.leaf_for.result in
    let leaf = c.index-leaves-leaf_for.result in
    let here : leaf ≡ get_or all place leaf = c.index-leaves-leaf_for.is in
    let x = (get_or all place leaf).items in
    let same = c.deref.ensures.value ∙ ap (λ (l : Vec Stretch). l.items) here in
    let count = c.place_for-place.result in
    let parted = subst (λ l. ranges.AreParted (c.args.number + 1) l count) same c.place_for-place.ensures in
    let size = ap (λ (l : Vec Stretch). length l.items) here in
    let within = parted.within in
    let less = c.if-place-len.false in
    let len = c.len.ensures in
    let lt : count < length x = omega (arith, within, size, less, len) in
    let range = c.index-range.result.now in
    let is : range ≡ get_or x count range = c.index-range.ensures ∙ ap (λ (l : Vec Stretch). get_or l.items count range) here in
    one_in all place c.args.number count leaf range c.requires.kept c.leaf_for.ensures parted lt is c.if-number-range.false
