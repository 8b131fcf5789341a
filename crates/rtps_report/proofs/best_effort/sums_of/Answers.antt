use Rattle.std.proofs.Common.{◌≡◌, ◌∙◌, ◌+◌, ◌<◌, ◌^◌, List, ap, arith, map, rules, take}
use Rattle.std.proofs.lemmas.List.{take_all}
use Rattle.std.proofs.lemmas.List.Sorted.{answers_always}
use Rattle.rtps_report.specs.BestEfforts as best_efforts
use Rattle.rtps_report.specs.declared.best_effort.Counted.{Counted}
use Rattle.rtps_report.proofs.BestEffortLemmas.{added_up_to, within_from}
use Rattle.rtps_report.proofs.BestEffortSums.{gathered, gathered_more, sorted_sums}
use Rattle.rtps_report.proofs.best_effort.sums_of.Goals as goal

pub add_counted-requires : goal.add_counted-requires
add_counted-requires c =
    let few : c.loop-one.one-index + 1 < 2 ^ 64 = omega arith in
    within_from c.loop-one.one-index (map best_efforts.best_effort_value c.loop-one.sums.items) few c.loop-one.invariant.few

pub loop-one-preserved : goal.loop-one-preserved
loop-one-preserved c =
    let sums = map best_efforts.best_effort_value c.loop-one.sums.items in
    let added : map best_efforts.best_effort_value c.add_counted.new.sums.items ≡ _ = c.in_ok-add_counted.ensures.added in
    record {
      gathered = gathered_more c.as_slice-one-items.result.now c.loop-one.one-index _ sums (map best_efforts.best_effort_value c.add_counted.new.sums.items) c.loop-one-test.true c.loop-one.invariant.gathered added;
      few = λ k d. rw added (added_up_to c.loop-one.one-index sums _ c.in_ok-add_counted.ensures.small c.loop-one.invariant.few k d);
    }

pub returns : goal.returns
returns c =
    let sorted = c.sort_by_key.new.self.items in
    let all : gathered (map best_efforts.counted_value (take c.loop-one.one-index c.as_slice-one-items.result.now)) ≡ gathered (map best_efforts.counted_value sorted) =
    ap (λ (items : List Counted). gathered (map best_efforts.counted_value items)) (take_all c.loop-one.one-index c.as_slice-one-items.result.now c.loop-one-test.false ∙ c.as_slice-one-items.ensures.value) in
    sorted_sums c.args.counted.now.items sorted (map best_efforts.best_effort_value c.loop-one.sums.items) c.sort_by_key.ensures.permutation
    (c.in_ok-sort_by_key.ensures.sorted (λ one. one.topic) (answers_always _ _ _ (λ f a r g h. search rules))) (c.loop-one.invariant.gathered ∙ all)
