use Rattle.std.proofs.Common.{◌+◌, ◌∙◌, ◌++◌, ◌∷◌, [], ap, append_assoc, arith, Bor, length, map, refl, subst, sym, take}
use Rattle.std.specs.List.Sorted.{IsStrictlySortedBy}
use Rattle.std.proofs.lemmas.List.{take_all}
use Rattle.rtps_receiver.specs.Values as values
use Rattle.rtps_discovery.specs.GuidOrder.{guid_cmp}
use Rattle.rtps_audit.specs.Placed as placed_spec
use Rattle.rtps_audit.proofs.Offered.{placed_more, placed_push}
use Rattle.rtps_passes.specs.Comparison as comparison
use Rattle.rtps_passes.specs.Judging as judging
use Rattle.rtps_passes.specs.declared.judged_writer.JudgedWriter.{JudgedWriter}
use Rattle.rtps_passes.specs.declared.judging.Judging.{Judging}
use Rattle.rtps_passes.proofs.comparison.Comparison.note.Goals as goal

pub loop-act-preserved : goal.loop-act-preserved
loop-act-preserved c =
    let acts = c.args.acts.now in
    let k = c.loop-act.act-index in
    let old = c.loop-act.self.kept.items in
    let new = c.note_act.new.self.kept.items in
    let writers = c.args.self.now.judging.now.writers.items in
    record {
      judging = c.in_ok-note_act.ensures.judging ∙ c.loop-act.invariant.judging;
      kept = λ datagram placed sorted known.
          let so_far = placed ++ placed_spec.placed_at datagram (map values.spoken_value (take k acts)) in
          let one : placed_spec.PlacedValue = record { datagram = datagram; act = values.spoken_value c.act-item.result } in
          let more = subst (λ (j : Bor Judging). IsStrictlySortedBy guid_cmp (map (λ (judged : JudgedWriter). judged.writer) j.now.writers.items) → comparison.HaveKept j.now.writers.items so_far old → comparison.HaveKept j.now.writers.items (so_far ++ one ∷ []) new)
          c.loop-act.invariant.judging (c.in_ok-note_act.ensures.kept datagram so_far) in
          subst (λ l. comparison.HaveKept writers l new) (append_assoc placed _ _ ∙ ap (λ l. placed ++ l) (sym (placed_more datagram acts k c.act-item.result c.loop-act-test.true c.act-item.is)))
          (more sorted (c.loop-act.invariant.kept datagram placed sorted known));
    }

pub returns : goal.returns
returns c = λ from pairs recording compared known.
    let acts = map values.spoken_value c.args.acts.now in
    let writers = c.args.self.now.judging.now.writers.items in
    let kept = c.loop-act.self.kept.items in
    let placed = placed_spec.placed_in compared in
    let datagram = length compared + 1 in
    let now = subst (λ l. comparison.HaveKept writers (placed ++ placed_spec.placed_at datagram (map values.spoken_value l)) kept) (take_all c.loop-act.act-index c.args.acts.now (omega (arith, c.loop-act-test.false)))
    (c.loop-act.invariant.kept datagram placed known.judging.taken.in_order known.kept) in
    let all = subst (λ l. comparison.HaveKept writers l kept) (placed_push compared acts (length compared) refl) now in
    record {
      judging = subst (λ (j : Bor Judging). judging.IsJudgingBy from pairs recording j.now) (sym c.loop-act.invariant.judging) known.judging;
      kept = subst (λ (j : Bor Judging). comparison.HaveKept j.now.writers.items (placed_spec.placed_in (compared ++ acts ∷ [])) kept) (sym c.loop-act.invariant.judging) all;
    }
