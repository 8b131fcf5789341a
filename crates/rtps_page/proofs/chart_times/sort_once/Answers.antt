use Rattle.std.proofs.Common.{◌==◌, ◌∙◌, ap, subst, sym}
use Rattle.std.proofs.lemmas.List.Filters.{dedup_is}
use Rattle.std.proofs.lemmas.List.Sorted.{list_any-IsPermutation}
use Rattle.std.proofs.lemmas.Map.Keys.{IsStrictlyIncreasing-dedup}
use Rattle.std.specs.List.Sorted.{IsStrictlyIncreasing}
use Rattle.rtps_page.specs.ChartTimes as chart_times
use Rattle.rtps_page.proofs.TimeLemmas.{among_dedup}
use Rattle.rtps_page.proofs.chart_times.sort_once.Goals as goal

pub returns : goal.returns
returns c =
    let sorted = c.sort_unstable.new.self.items in
    let kept = dedup_is (λ a b. a == b) sorted c.dedup.new.self.items c.dedup.ensures.filtered in
    record {
      rising = subst IsStrictlyIncreasing (sym kept) (IsStrictlyIncreasing-dedup sorted c.sort_unstable.ensures.sorted);
      same = λ number.
          ap (λ l. chart_times.is_among l number) kept ∙ among_dedup number sorted
          ∙ sym (list_any-IsPermutation (λ other. number == other) c.args.numbers.now.items sorted c.sort_unstable.ensures.permutation);
    }
