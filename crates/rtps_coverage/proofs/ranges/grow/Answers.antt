use Rattle.std.proofs.Common.{◌≡◌, ◌≤◌, ◌∙◌, ◌+◌, ◌++◌, ◌∷◌, ap, subst, take, drop, set, get_or, length, length-drop, arith}
use Rattle.std.proofs.lemmas.List.{length-set}
use Rattle.rtps_coverage.specs.Ranges as ranges
use Rattle.rtps_coverage.specs.declared.stretch.Stretch.{Stretch}
use Rattle.rtps_coverage.proofs.RangesLemmas.{apart_drop, grown, widened}
use Rattle.rtps_coverage.proofs.ranges.grow.Goals as goal

pub absorb-end-requires-clause-apart : goal.absorb-end-requires-clause-apart
absorb-end-requires-clause-apart c = apart_drop (c.args.place + 1) c.args.ranges.now.items c.requires.apart

pub returns-clause-joins : goal.returns-clause-joins
returns-clause-joins c =
    let old = c.args.ranges.now.items in
    let mid = c.absorb-end.new.ranges.items in
    let place = c.args.place in
    let end = c.absorb-end.result in
    let x = c.index-range.result.now in
    let w : Stretch = record { lo = c.min.result; hi = end } in
    let lt = c.requires.place in
    let wide = widened old mid place w c.absorb-end.ensures.front lt in
    let here : x ≡ get_or old place x = c.index-range.ensures in
    let begins : x.lo ≤ c.args.hi = (let a = c.requires.begins x in let b = ap (λ (s : Stretch). s.lo) here in omega arith) in
    grown old (drop (place + 1) mid) (set mid place w) x place c.args.lo c.args.hi end c.requires.apart lt here c.requires.parted begins c.requires.joined
    (subst (λ m. ranges.Absorbs (drop (place + 1) old) (drop (place + 1) mid) m end) c.max.ensures c.absorb-end.ensures.absorbs) c.absorb-end.ensures.past
    (wide.0 ∙ ap (λ m. take place old ++ record { lo = m; hi = end } ∷ drop (place + 1) mid) c.min.ensures)

pub returns-clause-len : goal.returns-clause-len
returns-clause-len c =
    let old = c.args.ranges.now.items in
    let mid = c.absorb-end.new.ranges.items in
    let place = c.args.place in
    let w : Stretch = record { lo = c.min.result; hi = c.absorb-end.result } in
    let wide = widened old mid place w c.absorb-end.ensures.front c.requires.place in
    let some = wide.1 in
    let count = length-set mid place w in
    let absorbs = c.absorb-end.ensures.absorbs in
    let left = ap length absorbs.is in
    let a = length-drop (place + 1) mid in
    let b = length-drop absorbs.removed (drop (place + 1) old) in
    let d = length-drop (place + 1) old in
    let e = c.requires.place in
    omega arith
