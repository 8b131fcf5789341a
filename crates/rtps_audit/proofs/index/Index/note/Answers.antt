use Rattle.std.proofs.Common.{◌+◌, ◌∙◌, [], ap, arith, filter, map, subst, sym, ◌∷◌}
use Rattle.std.proofs.lemmas.List.{length-append}
use Rattle.rtps_receiver.specs.Values as values
use Rattle.rtps_discovery.specs.Directory as directory
use Rattle.rtps_discovery.specs.GuidOrder as guid_order
use Rattle.rtps_audit.specs.Placed as placed_spec
use Rattle.rtps_audit.specs.Intake as intake_spec
use Rattle.rtps_audit.specs.declared.report.Counts.{Counts}
use Rattle.rtps_audit.proofs.AnnouncedLemmas.{places_joined}
use Rattle.rtps_audit.proofs.IntakeLemmas.{counts_more}
use Rattle.rtps_audit.proofs.PlacedActs.{placed_push, together_push}
use Rattle.rtps_audit.proofs.PlacedLemmas.{acts_joined, answers_joined}
use Rattle.rtps_audit.proofs.index.Index.note.Goals as goal

pub returns : goal.returns
returns c = λ intake is.
    let acts = map values.spoken_value c.args.acts.now in
    let announcing = map values.spoken_value c.args.announcing.now in
    let before = c.args.self.now.tallies.datagrams in
    let counted = ap (λ (counts : Counts). counts.datagrams) (is.counts 0) in
    let placed = placed_spec.placed_in intake.acts in
    let said = placed_push intake.acts acts before counted in
    let announced = placed_push intake.announcing announcing before (counted ∙ sym is.even) in
    let tallied = c.note.ensures in
    record {
      acts = λ origin. acts_joined origin [] _ _ placed _ (is.acts origin) (c.in_ok-note_acts.ensures origin) ∙ ap (filter (placed_spec.is_from origin)) said;
      answers = λ pair. answers_joined pair [] _ _ placed _ (is.answers pair) (c.in_ok-note_answers.ensures pair) ∙ ap (placed_spec.answers_among pair) said;
      even = omega (arith, length-append intake.announcing (announcing ∷ []), length-append intake.acts (acts ∷ []), is.even);
      announced = λ guid. places_joined guid [] (placed_spec.values_at guid_order.guid_cmp c.args.self.now.announced.map guid) (placed_spec.values_at guid_order.guid_cmp c.note_places.new.places.map guid) (placed_spec.placed_in intake.announcing)
          (placed_spec.placed_at (before + 1) announcing) (is.announced guid) (c.in_ok-note_places.ensures guid) ∙ ap (placed_spec.announced_among guid) announced;
      directory = subst (λ l. directory.IsMapOf l c.note_all.new.self) (sym (together_push intake.announcing announcing)) (c.in_ok-note_all.ensures.map (intake_spec.acts_together intake.announcing) is.directory);
      counts = counts_more intake c.args.tally acts announcing c.args.self.now.tallies c.note.new.self is.counts tallied.datagrams tallied.refused tallied.skipped tallied.fragments (tallied.undirected ∙ ap (λ n. c.args.self.now.tallies.undirected + n) c.undirected_among.ensures);
    }
