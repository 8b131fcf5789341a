use Rattle.std.proofs.Common.{◌≡◌, ◌+◌, ◌-◌, ◌++◌, ap, append-nil, arith, map, subst, sym, take, ◌∙◌}
use Rattle.std.specs.List.{slice_range}
use Rattle.std.proofs.Math.Seq.{take-add}
use Rattle.std.proofs.lemmas.List.{take_all}
use Rattle.rtps_receiver.specs.Speech as speech
use Rattle.rtps_receiver.specs.Values as values
use Rattle.rtps_receiver.specs.declared.spoken.Spoken.{Spoken}
use Rattle.rtps_discovery.specs.GuidOrder as guid_order
use Rattle.rtps_audit.specs.Placed as placed
use Rattle.rtps_audit.proofs.PlacedLemmas.{acts_joined, all_between, all_with_first, placed_both, run_filtered}
use Rattle.rtps_audit.proofs.placed.note_acts.Goals as goal

pub runs-init : goal.runs-init
runs-init c = λ origin. sym (append-nil _)

pub runs-preserved : goal.runs-preserved
runs-preserved c =
    let acts = c.args.acts.now in
    let start = c.runs.start in
    let end = c.run_end-end.result in
    let run = slice_range acts start end in
    let of_origin = λ (a : Spoken). speech.origin_of (values.spoken_value a) ≡ c.origin-origin.result in
    let from = all_between of_origin acts start end (all_with_first of_origin acts start end _ c.index-acts-start.is c.runs-test.true (sym c.origin-origin.ensures) c.run_end-end.ensures.run) in
    let whole : start + (end - start) ≡ end = omega (arith, c.run_end-end.ensures.onward) in
    let joined : take start acts ++ run ≡ take end acts = sym (take-add start (end - start) acts) ∙ ap (λ n. take n acts) whole in
    let more = sym (placed_both c.args.datagram (take start acts) run) ∙ ap (λ l. placed.placed_at c.args.datagram (map values.spoken_value l)) joined in
    subst (placed.AddsActs c.args.origins.now.map c.note_run.new.origins.map) more (λ origin. acts_joined origin _ _ _ _ _ (c.runs.invariant origin)
    (c.in_ok-note_run.ensures origin ∙ ap (λ l. map placed.placed_value (placed.values_at guid_order.guid_cmp c.runs.origins.map origin) ++ l) (sym (run_filtered c.args.datagram c.origin-origin.result origin run from))))

pub returns : goal.returns
returns c =
    subst (λ l. placed.AddsActs c.args.origins.now.map c.runs.origins.map (placed.placed_at c.args.datagram (map values.spoken_value l))) (take_all c.runs.start c.args.acts.now (omega (arith, c.runs-test.false))) c.runs.invariant
