use Rattle.std.proofs.Common.{map, rules, subst, sym}
use Rattle.std.specs.List.{All}
use Rattle.std.specs.List.Sorted.{IsNonDecreasingBy}
use Rattle.std.proofs.lemmas.List.Sorted.{All-permutation, IsNonDecreasingBy-from_sort_by_key}
use Rattle.rtps_audit.specs.PayloadConflict as payload_conflict
use Rattle.rtps_audit.specs.Placed as placed
use Rattle.rtps_audit.proofs.PayloadHearing.{sent_moved}
use Rattle.rtps_audit.proofs.payload_conflict.PayloadConflicts.of.Goals as goal

pub among-requires-clause-sorted : goal.among-requires-clause-sorted
among-requires-clause-sorted c = subst (IsNonDecreasingBy payload_conflict.number_in) (sym c.deref.ensures.value) (IsNonDecreasingBy-from_sort_by_key payload_conflict.number_in _ c.in_ok-sort_by_key.ensures.sorted (λ a r q k. search rules))

pub among-requires-clause-in_range : goal.among-requires-clause-in_range
among-requires-clause-in_range c = subst (All payload_conflict.IsInRange) (sym c.deref.ensures.value) (All-permutation payload_conflict.IsInRange _ _ c.in_ok-sort_by_key.ensures.permutation c.in_ok-entries.ensures.in_range)

pub returns : goal.returns
returns c = record {
  entries = c.sort_by_key.new.self.items;
  sent = sent_moved (payload_conflict.asks_for c.args.questions) (map placed.placed_value c.args.acts.now) _ _ c.in_ok-sort_by_key.ensures.permutation c.in_ok-entries.ensures.sent;
  conflicts = subst (λ l. payload_conflict.AreConflictsAmong l c.in_ok-conflicts.conflicts.payloads.items) c.deref.ensures.value c.in_ok-conflicts.ensures;
}
