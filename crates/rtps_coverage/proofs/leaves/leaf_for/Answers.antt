use Rattle.std.proofs.Common.{◌≡◌, ◌≤◌, ◌<◌, ◌-◌, ◌∙◌, ap, subst, get_or, length}
use Rattle.std.specs.Global.{Vec}
use Rattle.rtps_coverage.specs.Ranges as ranges
use Rattle.rtps_coverage.specs.declared.stretch.Stretch.{Stretch}
use Rattle.rtps_coverage.proofs.LeavesLemmas.{last_leaf, other_leaf}
use Rattle.rtps_coverage.proofs.leaves.leaf_for.Goals as goal

pub returns-then-begin_of-number : goal.returns-then-begin_of-number
returns-then-begin_of-number c =
    let all = c.args.leaves.now in
    let leaf = c.index-leaves-last.result in
    let here : leaf ≡ get_or all (length all - 1) leaf = c.index-leaves-last.is in
    let begins = c.begin_of.ensures ∙ ap ranges.begin_of (c.deref.ensures.value ∙ ap (λ (l : Vec Stretch). l.items) here) in
    last_leaf c.args.number all leaf c.requires.kept c.requires.some (subst (λ m. m ≤ c.args.number) begins c.if-begin_of-number.true)

pub returns : goal.returns
returns c =
    let all = c.args.leaves.now in
    let leaf = c.index-leaves-last.result in
    let here : leaf ≡ get_or all (length all - 1) leaf = c.index-leaves-last.is in
    let begins = c.begin_of.ensures ∙ ap ranges.begin_of (c.deref.ensures.value ∙ ap (λ (l : Vec Stretch). l.items) here) in
    let counted = c.count_before.ensures in
    other_leaf c.args.number c.count_before.result all leaf c.requires.kept c.requires.some (subst (λ m. c.args.number < m) begins c.if-begin_of-number.false) counted.within counted.before counted.past
