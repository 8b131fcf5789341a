use Rattle.std.proofs.Common.{◌≡◌, ◌+◌, ◌-◌, ◌∙◌, ap, arith, map}
use Rattle.rtps_audit.specs.Placed as placed
use Rattle.rtps_audit.specs.Said as said_spec
use Rattle.rtps_coverage.specs.Counts as counts
use Rattle.rtps_coverage.specs.Stretches as stretches
use Rattle.rtps_evidence.specs.Recorded as recorded
use Rattle.rtps_evidence.specs.Spans as spans_spec
use Rattle.rtps_evidence.proofs.RecordedLemmas.{recorded_in}
use Rattle.rtps_evidence.proofs.recorded.recorded_of.Goals as goal

pub returns : goal.returns
returns c = λ intake is.
    let span = c.span_of-span.result in
    let pair = c.args.pair in
    let own = map placed.placed_value c.until-sent.result.acts.now in
    let said = c.until-sent.ensures intake is in
    let hears = c.in_ok-heard.ensures (said_spec.datagrams_until span.until intake.acts) said in
    let told = c.in_ok-told.told.items in
    let from = c.get-from.result in
    let behind = c.greatest_sent-behind.result + 1 in
    let first : from ≡ span.from = c.get-from.ensures.value in
    let end : behind ≡ recorded.greatest_sent c.args.pair.writer own + 1 = ap (λ n. n + 1) c.greatest_sent-behind.ensures.value in
    let numbers : c.saturating_sub.result ≡ behind - from = omega arith in
    record {
      span = span;
      is_extent = c.span_of-span.ensures intake is (c.none-readers.ensures intake);
      are_recorded = recorded_in span pair (placed.placed_in (said_spec.datagrams_until span.until intake.acts)) (placed.placed_in (spans_spec.heard_in span pair intake.acts)) own (map placed.placed_value c.in_ok-heard.heard.acts.now) told from behind
          (record { numbers = c.saturating_sub.result; recorded = c.in_ok-recorded.recorded }) said.acts hears.acts first end c.in_ok-told.ensures
          numbers (c.in_ok-recorded.ensures.count ∙ ap (counts.count_in (stretches.stretches_have told) from) c.max.ensures);
    }
