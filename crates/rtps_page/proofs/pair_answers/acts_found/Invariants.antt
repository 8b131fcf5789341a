use Rattle.std.proofs.Common.{◌≡◌, ◌≤◌, length, map}
use Rattle.rtps_audit.specs.Placed as placed
use Rattle.rtps_page.proofs.AnswerLemmas.{AreFound}
use Rattle.rtps_page.proofs.pair_answers.acts_found.Given as goal

abbrev pub invariant-loop-answer : goal.invariant-loop-answer
invariant-loop-answer l = record {
  within : l.next ≤ length l.acts;
  count : length l.found.items ≡ l.answer-index;
  are : AreFound l.pair l.acts l.next (map placed.placed_value l.found.items);
}
