use Rattle.std.proofs.Common.{◌∙◌, ap, filter, get_or, refl, subst, sym, Some}
use Rattle.std.proofs.lemmas.List.{get_or_default}
use Rattle.rtps_coverage.specs.MergedRanges as merged_ranges
use Rattle.rtps_receiver.specs.Values as values
use Rattle.rtps_audit.specs.PayloadConflict as payload_conflict
use Rattle.rtps_audit.specs.Placed as placed_spec
use Rattle.rtps_passes.specs.Comparison as comparison
use Rattle.rtps_passes.specs.Judging as judging
use Rattle.rtps_passes.specs.declared.judged_writer.JudgedWriter.{JudgedWriter}
use Rattle.rtps_passes.proofs.ComparisonLemmas.{none_kept_more, one_kept_more}
use Rattle.rtps_passes.proofs.KeptLemmas.{kept_silent}
use Rattle.rtps_passes.proofs.PlaceLemmas.{FindsWriter}
use Rattle.rtps_passes.proofs.TakingLemmas.{from_found}
use Rattle.rtps_passes.proofs.comparison.Comparison.note_act.Goals as goal

pub returns-in_default-clause-kept : goal.returns-in_default-clause-kept
returns-in_default-clause-kept c = λ datagram placed sorted known.
    let writers = c.args.self.now.judging.now.writers.items in
    let act : placed_spec.PlacedValue = record { datagram = datagram; act = values.spoken_value c.args.act.now } in
    let found = subst (λ l. FindsWriter l c.origin.result c.place_of.result) c.deref.ensures.value c.place_of.ensures.found sorted in
    none_kept_more writers placed act c.args.self.now.kept.items (λ k d lt. from_found (get_or writers k d).writer c.origin.result act _ c.origin.ensures (found k d lt ∙ ap (λ f. judging.is_found f k) c.in_default.is)) known

pub returns-in_default-addressed-clause-kept : goal.returns-in_default-addressed-clause-kept
returns-in_default-addressed-clause-kept c = λ datagram placed sorted known.
    let writers = c.args.self.now.judging.now.writers.items in
    let kept = c.args.self.now.kept.items in
    let place = c.in-Some.place in
    let act : placed_spec.PlacedValue = record { datagram = datagram; act = values.spoken_value c.args.act.now } in
    let found = subst (λ l. FindsWriter l c.origin.result (Some place)) c.deref.ensures.value c.in-Some.ensures.found sorted in
    let one = c.index.result.now in
    let questions = c.questions-questions.result in
    one_kept_more writers placed act kept kept place (λ k d lt. from_found (get_or writers k d).writer c.origin.result act _ c.origin.ensures (found k d lt)) (λ other apart. refl)
    (λ d lt before.
    let here = c.index.ensures ∙ get_or_default writers place one d lt in
    kept_silent (comparison.is_wanted (get_or writers place d)) (filter (placed_spec.is_from (get_or writers place d).writer) placed) (comparison.kept_at kept place) act
    (λ n x asked. c.in_default-addressed.ensures n x
    (ap (λ f. payload_conflict.is_in_question f (merged_ranges.covered_of questions.again.now) n) c.questions-questions.ensures.from ∙ ap (λ s. payload_conflict.is_in_question one.accounts.from (merged_ranges.covered_of s) n) c.questions-questions.ensures.again
    ∙ ap (λ (w : JudgedWriter). comparison.is_wanted w n) here ∙ asked)) before) known

pub returns-clause-kept : goal.returns-clause-kept
returns-clause-kept c = λ datagram placed sorted known.
    let writers = c.args.self.now.judging.now.writers.items in
    let place = c.in-Some.place in
    let act : placed_spec.PlacedValue = record { datagram = datagram; act = values.spoken_value c.args.act.now } in
    let found = subst (λ l. FindsWriter l c.origin.result (Some place)) c.deref.ensures.value c.in-Some.ensures.found sorted in
    let one = c.index.result.now in
    let questions = c.questions-questions.result in
    let n = c.in-Some-addressed.entry.number in
    one_kept_more writers placed act c.args.self.now.kept.items c.keep.new.self.kept.items place (λ k d lt. from_found (get_or writers k d).writer c.origin.result act _ c.origin.ensures (found k d lt)) c.in_ok-keep.ensures.others
    (λ d lt before.
    let here = c.index.ensures ∙ get_or_default writers place one d lt in
    c.in_ok-keep.ensures.kept (comparison.is_wanted (get_or writers place d)) (filter (placed_spec.is_from (get_or writers place d).writer) placed) act c.in-Some-addressed.ensures.0
    (sym
    (ap (λ f. payload_conflict.is_in_question f (merged_ranges.covered_of questions.again.now) n) c.questions-questions.ensures.from ∙ ap (λ s. payload_conflict.is_in_question one.accounts.from (merged_ranges.covered_of s) n) c.questions-questions.ensures.again
    ∙ ap (λ (w : JudgedWriter). comparison.is_wanted w n) here) ∙ c.in-Some-addressed.ensures.1) before) known
