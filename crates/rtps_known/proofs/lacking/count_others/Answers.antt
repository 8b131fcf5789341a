use Rattle.std.proofs.Common.{◌∙◌, ◌||◌, ◌&&◌, ap, not}
use Rattle.rtps_coverage.specs.Counts as counts
use Rattle.rtps_coverage.specs.Stretches as stretches
use Rattle.rtps_known.specs.declared.layout.TheConstants as layout
use Rattle.rtps_known.proofs.LackingLemmas.{count_at_most, counted_more, less_most, sum_above, sum_less}
use Rattle.rtps_known.proofs.lacking.count_others.Goals as goal

pub overflow_sub-result : goal.overflow_sub-result
overflow_sub-result c =
    let told = stretches.stretches_have c.args.stretches.now in
    let marked = stretches.stretches_have c.args.others.now.items in
    let both = stretches.stretches_have c.append.new.stretches.items in
    let others = counts.count_in (λ n. told n && not (marked n)) c.args.from layout.END in
    let sum = counted_more told marked both c.args.from c.in_ok-before.before c.in_ok-all.all
    (λ n. c.in_ok-append.ensures n ∙ ap (λ b. b || told n) (c.in_ok-before.ensures.same n)) c.in_ok-before.ensures.count c.in_ok-all.ensures.count in
    sum_above c.in_ok-all.all c.in_ok-before.before others sum

pub returns-clause-count : goal.returns-clause-count
returns-clause-count c =
    let told = stretches.stretches_have c.args.stretches.now in
    let marked = stretches.stretches_have c.args.others.now.items in
    let both = stretches.stretches_have c.append.new.stretches.items in
    let others = counts.count_in (λ n. told n && not (marked n)) c.args.from layout.END in
    let sum = counted_more told marked both c.args.from c.in_ok-before.before c.in_ok-all.all
    (λ n. c.in_ok-append.ensures n ∙ ap (λ b. b || told n) (c.in_ok-before.ensures.same n)) c.in_ok-before.ensures.count c.in_ok-all.ensures.count in
    sum_less c.in_ok-all.all c.in_ok-before.before others sum

pub returns-clause-bounded : goal.returns-clause-bounded
returns-clause-bounded c =
    let told = stretches.stretches_have c.args.stretches.now in
    let marked = stretches.stretches_have c.args.others.now.items in
    let both = stretches.stretches_have c.append.new.stretches.items in
    let others = counts.count_in (λ n. told n && not (marked n)) c.args.from layout.END in
    let sum = counted_more told marked both c.args.from c.in_ok-before.before c.in_ok-all.all
    (λ n. c.in_ok-append.ensures n ∙ ap (λ b. b || told n) (c.in_ok-before.ensures.same n)) c.in_ok-before.ensures.count c.in_ok-all.ensures.count in
    less_most c.in_ok-all.all c.in_ok-before.before others _ sum (count_at_most (λ n. told n && not (marked n)) c.args.from layout.END)
