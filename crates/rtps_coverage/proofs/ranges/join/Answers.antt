use Rattle.std.proofs.Common.{◌∙◌, drop, length, sym, ap, subst, inr}
use Rattle.std.proofs.lemmas.List.Edits.{length-insert}
use Rattle.rtps_coverage.specs.Ranges as ranges
use Rattle.rtps_coverage.proofs.RangesLemmas.{apart_drop, clear_around, inserted, on_err}
use Rattle.rtps_coverage.proofs.ranges.join.Goals as goal

pub begun_at-requires-clause-apart : goal.begun_at-requires-clause-apart
begun_at-requires-clause-apart c = subst (λ l. ranges.AreApart (drop c.place_for-place.result l)) (sym c.deref-2.ensures.value) (apart_drop c.place_for-place.result c.args.ranges.now.items c.requires.apart)

pub returns-in_err-insert-in-None-clause-clear : goal.returns-in_err-insert-in-None-clause-clear
returns-in_err-insert-in-None-clause-clear c =
    let xs = c.args.ranges.now.items in
    let place = c.place_for-place.result in
    let parted = subst (λ l. ranges.AreParted c.args.lo l place) c.deref.ensures.value c.place_for-place.ensures in
    let past = subst (λ l. ranges.BeginPast c.args.hi (drop place l)) c.deref-2.ensures.value c.in-None.ensures in
    on_err c.from_residual.result (ranges.AreClear c.args.lo c.args.hi xs) (clear_around c.args.lo c.args.hi place xs parted past)

pub returns-in_ok-insert-in-None-clause-joins : goal.returns-in_ok-insert-in-None-clause-joins
returns-in_ok-insert-in-None-clause-joins c =
    let xs = c.args.ranges.now.items in
    let place = c.place_for-place.result in
    let parted = subst (λ l. ranges.AreParted c.args.lo l place) c.deref.ensures.value c.place_for-place.ensures in
    let past = subst (λ l. ranges.BeginPast c.args.hi (drop place l)) c.deref-2.ensures.value c.in-None.ensures in
    inserted xs c.insert.new.self.items place c.args.lo c.args.hi c.requires.apart parted past c.requires.joined c.in_ok-insert-in-None.ensures.items

pub returns-in_ok-insert-in-None-clause-counts : goal.returns-in_ok-insert-in-None-clause-counts
returns-in_ok-insert-in-None-clause-counts c =
    let xs = c.args.ranges.now.items in
    let place = c.place_for-place.result in
    let parted = subst (λ l. ranges.AreParted c.args.lo l place) c.deref.ensures.value c.place_for-place.ensures in
    let past = subst (λ l. ranges.BeginPast c.args.hi (drop place l)) c.deref-2.ensures.value c.in-None.ensures in
    let more = ap length c.in_ok-insert-in-None.ensures.items ∙ length-insert xs place (record { lo = c.args.lo; hi = c.args.hi }) parted.within in
    inr (more, clear_around c.args.lo c.args.hi place xs parted past)
