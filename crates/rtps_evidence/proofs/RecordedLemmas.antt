-- What a recording has of a writer and a reader of best effort, by the acts of the writer alone.
use Rattle.std.proofs.lemmas.Grind.{common_steps}
use Rattle.std.proofs.lemmas.Bool.Decides.{nat_tests}
use Rattle.std.proofs.Common.{◌≡◌, ◌∙◌, ◌+◌, ◌-◌, ℕ, Bool, ◌≤◌, List, filter, max, not, refl, ap, arith}
use Rattle.rtps_ids.specs.declared.identity.Guid.{Guid}
use Rattle.rtps_discovery.specs.declared.matching.Pair.{Pair}
use Rattle.rtps_audit.specs.Placed as placed
use Rattle.rtps_audit.proofs.Offered.{speaker_is_origin}
use Rattle.rtps_coverage.specs.Counts as counts
use Rattle.rtps_coverage.specs.Stretches as stretches_spec
use Rattle.rtps_evidence.specs.Amount as amount
use Rattle.rtps_evidence.specs.FirstNumbers as first_numbers
use Rattle.rtps_evidence.specs.Recorded as recorded
use Rattle.rtps_coverage.specs.declared.stretch.Stretch.{Stretch}
use Rattle.rtps_evidence.specs.declared.recorded.ArrivedNumbers.{ArrivedNumbers}
use Rattle.rtps_evidence.specs.declared.recorded.Recorded.{Recorded}
use Rattle.rtps_evidence.specs.declared.span.Span.{Span}
use Rattle.rtps_coverage.proofs.Offered.{count_same}
use Rattle.rtps_evidence.proofs.FirstNumbersLemmas.{first_same}
use Rattle.rtps_evidence.proofs.OriginLemmas.{sent_same}
use Rattle.rtps_evidence.proofs.SpanLemmas.{greatest_filter}

greatest_same : (writer : Guid) (acts : List placed.PlacedValue) → recorded.greatest_sent writer (filter (placed.is_from writer) acts) ≡ recorded.greatest_sent writer acts
greatest_same writer acts = grind (arith, nat_tests, common_steps, greatest_filter, speaker_is_origin)

-- the numbers end where the first one stands behind them all
count_ends : (has : ℕ → Bool) (from behind : ℕ) → counts.count_in has from (max behind from) ≡ counts.count_in has from behind
count_ends has from behind = grind (arith, nat_tests)

greatest_is : (writer : Guid) (acts own : List placed.PlacedValue) (behind : ℕ) → own ≡ filter (placed.is_from writer) acts → behind ≡ recorded.greatest_sent writer own + 1 → behind ≡ recorded.greatest_sent writer acts + 1
greatest_is writer acts own behind own_is is = is ∙ ap (λ l. recorded.greatest_sent writer l + 1) own_is ∙ ap (λ n. n + 1) (greatest_same writer acts)

-- stretches counted up to the greatest number that the writer sent
pub counted_in : (writer : Guid) (acts own : List placed.PlacedValue) (stretches : List Stretch) (has : ℕ → Bool) (first from behind count : ℕ) → own ≡ filter (placed.is_from writer) acts → from ≡ first → behind ≡ recorded.greatest_sent writer own + 1
    → ((n : ℕ) → stretches_spec.stretches_have stretches n ≡ has n) → count ≡ counts.count_in (stretches_spec.stretches_have stretches) from (max behind from) → count ≡ counts.count_in has first (recorded.greatest_sent writer acts + 1)
counted_in writer acts own stretches has first from behind count own_is from_is behind_is same counted = grind (arith, nat_tests, common_steps, count_ends, count_same, greatest_is)

-- what is told among the writer's acts that the reader hears
told_among : (pair : Pair) (heard own : List placed.PlacedValue) (told : List Stretch) → own ≡ filter (placed.is_from pair.writer) heard
    → ((n : ℕ) → stretches_spec.stretches_have told n ≡ amount.is_sent pair.writer pair.reader own n) → (n : ℕ) → stretches_spec.stretches_have told n ≡ amount.is_sent pair.writer pair.reader heard n
told_among pair heard own told own_is told_is n = grind (arith, nat_tests, common_steps, sent_same)

-- what is counted of it, up to the greatest number among the writer's acts
pub recorded_in : (span : Span) (pair : Pair) (acts heard own own_heard : List placed.PlacedValue) (told : List Stretch) (from behind : ℕ) (found : Recorded)
    → own ≡ filter (placed.is_from pair.writer) acts → own_heard ≡ filter (placed.is_from pair.writer) heard → from ≡ span.from → behind ≡ recorded.greatest_sent pair.writer own + 1
    → ((n : ℕ) → stretches_spec.stretches_have told n ≡ amount.is_sent pair.writer pair.reader own_heard n)
    → found.numbers ≡ behind - from → found.recorded ≡ counts.count_in (stretches_spec.stretches_have told) from (max behind from) → recorded.AreRecordedIn span pair acts heard found
recorded_in span pair acts heard own own_heard told from behind found own_is heard_is from_is behind_is told_is numbers count = record {
  numbers = numbers ∙ ap (λ n. n - from) (greatest_is pair.writer acts own behind own_is behind_is) ∙ ap (λ n. recorded.greatest_sent pair.writer acts + 1 - n) from_is;
  recorded = counted_in pair.writer acts own told (amount.is_sent pair.writer pair.reader heard) span.from from behind found.recorded own_is from_is behind_is (told_among pair heard own_heard told heard_is told_is) count;
}

-- the greatest number that the writer sent, or the one before the first
ends_behind : (greatest from last : ℕ) → 1 ≤ from → last ≡ max greatest (from - 1) → last + 1 ≡ max (greatest + 1) from
ends_behind greatest from last low is = omega arith

-- the first ones end where the first number stands behind them all
first_ends : (has : ℕ → Bool) (from behind : ℕ) → first_numbers.first_ten has from (max behind from) ≡ first_numbers.first_ten has from behind
first_ends has from behind = grind (arith, nat_tests)

-- of the numbers that are there, what is counted and named up to the greatest that the writer sent
pub arrived_among : (writer : Guid) (acts own : List placed.PlacedValue) (stretches : List Stretch) (there : ℕ → Bool) (first from last : ℕ)
    (found : ArrivedNumbers) → own ≡ filter (placed.is_from writer) acts → from ≡ first → 1 ≤ from
    → last ≡ max (recorded.greatest_sent writer own) (from - 1) → ((n : ℕ) → stretches_spec.stretches_have stretches n ≡ there n)
    → found.arrived ≡ counts.count_in (stretches_spec.stretches_have stretches) from (last + 1)
    → found.lacking ≡ first_numbers.kept (first_numbers.first_ten (λ n. not (stretches_spec.stretches_have stretches n)) from (last + 1))
    → recorded.IsArrivedAmong there first (recorded.greatest_sent writer acts + 1) found
arrived_among writer acts own stretches there first from last found own_is from_is low last_is same arrived lacking =
    let behind = recorded.greatest_sent writer own + 1 in
    let end : last + 1 ≡ max behind from = ends_behind (recorded.greatest_sent writer own) from last low last_is in
    let others : ℕ → Bool = λ n. not (there n) in
    record {
      arrived = counted_in writer acts own stretches there first from behind found.arrived own_is from_is refl same
          (arrived ∙ ap (counts.count_in (stretches_spec.stretches_have stretches) from) end);
      lacking = lacking
          ∙ ap first_numbers.kept (
          ap (first_numbers.first_ten (λ n. not (stretches_spec.stretches_have stretches n)) from) end
          ∙ first_same (λ n. not (stretches_spec.stretches_have stretches n)) others from (max behind from) (λ n a b. ap not (same n))
          ∙ first_ends others from behind ∙ ap (λ n. first_numbers.first_ten others n behind) from_is
          ∙ ap (first_numbers.first_ten others first) (greatest_is writer acts own behind own_is refl)
          );
    }
