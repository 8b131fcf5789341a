use Rattle.std.proofs.Common.{◌≡◌, [], ap, arith, get_or, refl, subst}
use Rattle.std.proofs.lemmas.List.{get_or_default, take_all}
use Rattle.rtps_discovery.specs.declared.matching.Pair.{Pair}
use Rattle.rtps_audit.proofs.Offered.{all_between, all_with_first, no_pair}
use Rattle.rtps_passes.specs.Judging as judging
use Rattle.rtps_passes.proofs.BeginLemmas.{more_begun, none_begun, range_in_order}
use Rattle.rtps_passes.proofs.judging.writers_of.Goals as goal

pub writers-init : goal.writers-init
writers-init c = λ sorted. none_begun c.args.from c.args.pairs.now c.new-writers.result.items c.new-writers.ensures.items

pub writers-preserved : goal.writers-preserved
writers-preserved c = λ sorted.
    let pairs = c.args.pairs.now in
    let start = c.writers.start in
    let end = c.writer_end-end.result in
    more_begun c.args.from pairs start end c.writers.writers.items c.push.new.self.items c.in_ok-of.field-0 (get_or pairs start no_pair).writer c.in_ok-push.ensures.items (omega (arith, c.writer_end-end.ensures.onward)) c.writer_end-end.ensures.within c.in_ok-of.ensures.writer
    (λ d. ap (λ (pair : Pair). pair.writer) (get_or_default pairs start d no_pair c.writers-test.true)) c.in_ok-of.ensures.pairs (c.in_ok-of.ensures.taken (range_in_order pairs start end c.writer_end-end.ensures.within sorted)) c.writer_end-end.ensures.end sorted (c.writers.invariant sorted)

pub of-requires : goal.of-requires
of-requires c =
    let pairs = c.args.pairs.now in
    let start = c.writers.start in
    let first = get_or pairs start no_pair in
    let of_writer = λ (pair : Pair). pair.writer ≡ first.writer in
    all_between of_writer pairs start c.writer_end-end.result
    (all_with_first of_writer pairs start c.writer_end-end.result first (get_or_default pairs start no_pair first c.writers-test.true) c.writers-test.true refl c.writer_end-end.ensures.of_writer)

pub returns : goal.returns
returns c = λ sorted.
    subst (λ l. judging.HaveTakenIn c.args.from 0 l [] [] c.writers.writers.items) (take_all c.writers.start c.args.pairs.now (omega (arith, c.writers-test.false))) (c.writers.invariant sorted).taken
