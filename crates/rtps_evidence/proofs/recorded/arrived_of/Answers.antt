use Rattle.std.proofs.Common.{◌≡◌, ◌+◌, ◌-◌, ◌∙◌, ap, map, max, not, sym}
use Rattle.rtps_audit.specs.Placed as placed
use Rattle.rtps_audit.specs.Said as said_spec
use Rattle.rtps_coverage.specs.Counts as counts
use Rattle.rtps_coverage.specs.Stretches as stretches_spec
use Rattle.rtps_evidence.specs.FirstNumbers as first_numbers
use Rattle.rtps_evidence.specs.OtherSide as other_side
use Rattle.rtps_evidence.specs.Recorded as recorded
use Rattle.rtps_evidence.proofs.FirstNumbersLemmas.{first_same}
use Rattle.rtps_evidence.proofs.RecordedLemmas.{arrived_among}
use Rattle.rtps_evidence.proofs.recorded.arrived_of.Goals as goal

pub returns : goal.returns
returns c = λ intake beside are.
    let span = c.span_of-span.result in
    let pair = c.args.pair in
    let own = map placed.placed_value c.until-said.result.acts.now in
    let said = c.until-said.ensures intake are.index in
    let arrivals = c.in_ok-arrivals.arrivals in
    let stretches = arrivals.numbers.items in
    let there = c.in_ok-arrivals.ensures intake beside are in
    let asked = c.sent_from-asked.result in
    let begins : c.get-from.result ≡ asked.from = c.get-from.ensures.value in
    let last : asked.last ≡ max (recorded.greatest_sent pair.writer own) (asked.from - 1) =
    c.sent_from-asked.ensures.last ∙ ap (λ n. max (recorded.greatest_sent pair.writer own) (n - 1)) (sym c.sent_from-asked.ensures.from) in
    let same = first_same (λ n. not (stretches_spec.stretches_have c.count_of.new.stretches.items n)) (λ n. not (stretches_spec.stretches_have stretches n)) asked.from (asked.last + 1)
    (λ n low high. ap not (c.in_ok-arrived.ensures.same n)) in
    record {
      span = span;
      is_extent = c.span_of-span.ensures intake are.index (c.none-readers.ensures intake);
      way = there.way_is;
      arrived = (
        sym there.holds ∙ c.if-not-arrivals.false,
        arrived_among pair.writer (placed.placed_in (said_spec.datagrams_until span.until intake.acts)) own stretches (other_side.is_there intake.acts beside.other pair) span.from asked.from asked.last
            (record { arrived = c.in_ok-arrived.arrived; lacking = c.in_ok-lacking.lacking }) said.acts c.sent_from-asked.ensures.from asked.in_range.0 last there.numbers
            (c.in_ok-arrived.ensures.count ∙ ap (λ n. counts.count_in (stretches_spec.stretches_have stretches) n (asked.last + 1)) begins) (c.in_ok-lacking.ensures ∙ ap first_numbers.kept same),
      );
    }
