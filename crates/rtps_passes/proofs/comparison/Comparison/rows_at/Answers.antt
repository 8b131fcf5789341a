use Rattle.std.proofs.Common.{◌∙◌, filter, rules, subst, sym}
use Rattle.std.specs.List.{All}
use Rattle.std.specs.List.Sorted.{IsNonDecreasingBy}
use Rattle.std.proofs.lemmas.List.{get_or_default}
use Rattle.std.proofs.lemmas.List.Sorted.{All-permutation, IsNonDecreasingBy-from_sort_by_key}
use Rattle.rtps_audit.specs.Account as account
use Rattle.rtps_audit.specs.PayloadConflict as payload_conflict
use Rattle.rtps_audit.specs.Placed as placed_spec
use Rattle.rtps_audit.proofs.Offered.{sent_moved}
use Rattle.rtps_passes.specs.Comparison as comparison
use Rattle.rtps_passes.specs.Judging as judging
use Rattle.rtps_passes.specs.declared.judged_writer.JudgedWriter.{JudgedWriter}
use Rattle.rtps_passes.proofs.ComparisonLemmas.{said_of}
use Rattle.rtps_passes.proofs.comparison.Comparison.rows_at.Goals as goal

pub among-requires-clause-sorted : goal.among-requires-clause-sorted
among-requires-clause-sorted c = subst (IsNonDecreasingBy payload_conflict.number_in) (sym c.deref.ensures.value) (IsNonDecreasingBy-from_sort_by_key payload_conflict.number_in _ c.in_ok-sort_by_key.ensures.sorted (λ a r q k. search rules))

pub among-requires-clause-in_range : goal.among-requires-clause-in_range
among-requires-clause-in_range c = subst (All payload_conflict.IsInRange) (sym c.deref.ensures.value) (All-permutation payload_conflict.IsInRange _ _ c.in_ok-sort_by_key.ensures.permutation c.in_ok-entries.ensures.in_range)

pub returns : goal.returns
returns c = λ from pairs recording d known.
    let self = c.args.self.now in
    let writers = self.judging.now.writers.items in
    let one = c.index.result.now in
    let here = c.index.ensures ∙ get_or_default writers c.args.place one d c.requires in
    let placed = placed_spec.placed_in recording in
    let acts = filter (placed_spec.is_from one.writer) placed in
    let taken = subst (judging.HasTakenIn from self.judging.now.datagrams placed placed) (sym here) (known.judging.taken.each c.args.place d c.requires) in
    let kept = subst (λ (w : JudgedWriter). comparison.AreKept (comparison.is_wanted w) (filter (placed_spec.is_from w.writer) placed) (comparison.kept_at self.kept.items c.args.place)) (sym here) (known.kept c.args.place d c.requires) in
    let sent = sent_moved (comparison.is_wanted one) acts _ _ c.in_ok-sort_by_key.ensures.permutation (c.in_ok-entries.ensures.sent (comparison.is_wanted one) acts kept) in
    let conflicts = subst (λ l. payload_conflict.AreConflictsAmong l c.in_ok-conflicts.conflicts.payloads.items) c.deref.ensures.value c.in_ok-conflicts.ensures in
    let rows = c.in_ok-rows.ensures.rows from one.writer (judging.pairs_of one) taken.asks recording acts known.judging.positive (said_of from self.judging.now.datagrams recording one taken) taken.stand
    (record { entries = c.sort_by_key.new.self.items; sent = sent; conflicts = conflicts }) in
    subst (λ (w : JudgedWriter). account.AreRowsOf from recording (judging.pairs_of w) c.in_ok-rows.rows.items) here rows
