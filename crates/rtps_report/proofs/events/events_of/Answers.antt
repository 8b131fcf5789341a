use Rattle.std.proofs.Common.{◌∙◌, ℕ, Ordering, ap, map, nat_cmp, refl, rules}
use Rattle.std.proofs.lemmas.List.Sorted.{answers_always}
use Rattle.rtps_report.specs.Events as events
use Rattle.rtps_report.specs.declared.events.Event.{Event}
use Rattle.rtps_report.proofs.EventOrder.{sorted_worst}
use Rattle.rtps_report.proofs.SortLemmas.{sorted_values, stable_values}
use Rattle.rtps_report.proofs.events.events_of.Goals as goal

-- the same with so many numbers
with_numbers : Event → ℕ → Event
with_numbers event numbers = record event { numbers = numbers }

falling : ℕ → ℕ → Ordering
falling one other = nat_cmp other one

pub returns : goal.returns
unfolding with_numbers falling
returns c =
    let found = c.in_ok-events.events.items in
    let sorted = c.sort_by_key.new.self.items in
    let falls = sorted_values (λ (one other : events.EventValue). falling one.numbers other.numbers) events.event_value sorted
    (c.in_ok-sort_by_key.ensures.sorted (λ event. record { 0 = event.numbers }) (answers_always _ _ _ (λ f a r g h. search rules))) in
    let stands = stable_values falling (λ (event : events.EventValue). event.numbers) events.event_value with_numbers (λ event numbers. refl) found sorted
    (c.in_ok-sort_by_key.ensures.stable (λ event. record { 0 = event.numbers }) (answers_always _ _ _ (λ f a r g h. search rules))) in
    sorted_worst (map events.event_value found) (map events.event_value sorted) falls stands ∙ ap events.worst_first c.in_ok-events.ensures
