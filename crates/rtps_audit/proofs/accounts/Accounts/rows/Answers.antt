use Rattle.std.proofs.Common.{map, subst}
use Rattle.rtps_coverage.specs.MergedRanges as merged_ranges
use Rattle.rtps_audit.specs.PayloadConflict as payload_conflict
use Rattle.rtps_audit.specs.Placed as placed_spec
use Rattle.rtps_audit.proofs.accounts.Accounts.rows.Goals as goal

pub returns-clause-rows : goal.returns-clause-rows
returns-clause-rows g c = λ from writer pairs asks recording positive said known.
    let placed = map placed_spec.placed_value c.args.acts.now in
    let kept = c.in_ok-conflicts.conflicts.payloads.items in
    let asked = c.questions.result in
    let by_from = subst (λ m. payload_conflict.AreConflictsOf (payload_conflict.is_in_question m (merged_ranges.covered_of asked.again.now)) kept placed) c.questions.ensures.from c.in_ok-conflicts.ensures in
    let by_again = subst (λ again. payload_conflict.AreConflictsOf (payload_conflict.is_in_question c.args.self.now.from (merged_ranges.covered_of again)) kept placed) c.questions.ensures.again by_from in
    c.in_ok-rows.ensures.rows from writer pairs asks recording placed positive said known by_again
