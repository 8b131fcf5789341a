use Rattle.std.proofs.Common.{◌≡◌, pos, nat_le, nat_lt, ◌&&◌, ◌∙◌, sym, ap, arith}
use Rattle.std.specs.List.{list_any}
use Rattle.std.proofs.lemmas.Int.{ints}
use Rattle.std.specs.Prelude.{◌||◌}
use Rattle.rtps_coverage.specs.Stretches as stretches_spec
use Rattle.rtps_coverage.specs.PlainRanges as plain_ranges
use Rattle.rtps_coverage.proofs.CoverageLemmas.{is_within-pos}
use Rattle.rtps_coverage.proofs.StretchLemmas.{joins_front, All-filter, any-filter_past}
use Rattle.rtps_coverage.proofs.plain_ranges.PlainRangesCoverage.add.Goals as goal

pub invariant_of-self-2 : goal.invariant_of-self-2
invariant_of-self-2 c =
    let front = c.reach-self.result in
    let stretches = c.args.self.now.beyond.items in
    let reaches = rw c.deref.ensures.value at c.reach-self.ensures in
    record {
      front_in_range = (omega arith, c.reach-self.ensures.in_range);
      beyond_in_range = rw c.keep_past.ensures (All-filter (λ stretch. nat_lt front stretch.lo) stretches c.args.self.now.beyond_in_range);
      front_outside = ap (list_any (stretches_spec.stretch_has front)) c.keep_past.ensures ∙ any-filter_past front front stretches (omega arith) reaches.outside ∙ reaches.outside;
    }

pub returns-clause-ok : goal.returns-clause-ok
returns-clause-ok c =
    let set = c.args.self.now in
    let lo = c.cast_unsigned-lo.result in
    let hi = c.cast_unsigned-hi.result in
    let front = c.reach-self.result in
    let reaches = rw c.deref.ensures.value at c.reach-self.ensures in
    let low : pos lo ≡ c.args.lo = omega (arith, ints) in
    let high : pos hi ≡ c.args.hi = omega (arith, ints) in
    λ n.
    ap (λ stretches. (nat_le 1 n && nat_lt n front) || list_any (stretches_spec.stretch_has n) stretches) c.keep_past.ensures
    ∙ joins_front set.front lo hi front set.beyond.items (omega (arith, ints)) (omega arith) (omega arith) set.beyond_in_range reaches n
    ∙ ap (λ b. plain_ranges.covered_of set n || b) (sym (is_within-pos c.args.lo c.args.hi lo hi low high n))
