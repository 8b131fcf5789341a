use Rattle.std.proofs.Common.{ℕ, Bool, nat_le, nat_lt, ◌≤◌, ◌≡◌, ◌&&◌, ◌||◌, pos, ◌<ℤ◌, ◌∙◌, sym, ap, arith}
use Rattle.std.specs.Prelude.{is_some}
use Rattle.std.specs.List.{find}
use Rattle.std.proofs.lemmas.Int.{ints}
use Rattle.std.proofs.lemmas.Bool.Decides.{nat_tests}
use Rattle.rtps_coverage.specs.Stretches as stretches
use Rattle.rtps_coverage.specs.PlainRanges as plain_ranges
use Rattle.rtps_coverage.proofs.CoverageLemmas.{has-below_one, has-pos}
use Rattle.rtps_coverage.proofs.StretchLemmas.{list_any-find}
use Rattle.rtps_coverage.proofs.plain_ranges.PlainRangesCoverage.covers.Goals as goal

pub returns-then-n-lt1 : goal.returns-then-n-lt1
returns-then-n-lt1 c =
    let set = c.args.self.now in
    let lt : c.args.n <ℤ pos 1 = omega (arith, ints) in
    sym (has-below_one (plain_ranges.covered_of set) (λ n h. (plain_ranges.covered_in_range set n h).0) c.args.n lt)

past_front : (front n : ℕ) (b : Bool) → front ≤ n → ((nat_le 1 n && nat_lt n front) || b) ≡ b
past_front front n b h = grind (arith, nat_tests)

pub returns-else-n-self : goal.returns-else-n-self
returns-else-n-self c =
    let set = c.args.self.now in
    let k = c.cast_unsigned-n.result in
    let same : pos k ≡ c.args.n = omega (arith, ints) in
    let found = list_any-find (stretches.stretch_has k) set.beyond.items in
    let past = past_front set.front k (is_some (find (stretches.stretch_has k) set.beyond.items)) c.if-n-self.false in
    c.is_some.ensures ∙ ap is_some (c.stretch_of.ensures ∙ ap (find (stretches.stretch_has k)) c.deref.ensures.value)
    ∙ sym (has-pos (plain_ranges.covered_of set) c.args.n k same ∙ ap (λ b. (nat_le 1 k && nat_lt k set.front) || b) found ∙ past)
