use Rattle.std.proofs.Common.{◌≡◌, ◌∙◌, ◌+◌, ◌≤◌, ◌++◌, ◌∷◌, [], ap, arith, length, map, subst, sym}
use Rattle.std.proofs.lemmas.List.{length-append}
use Rattle.rtps_receiver.specs.Values as values
use Rattle.rtps_audit.specs.Placed as placed_spec
use Rattle.rtps_audit.proofs.Offered.{placed_push}
use Rattle.rtps_passes.specs.Judging as judging
use Rattle.rtps_passes.proofs.TakingLemmas.{earlier, later_taken}
use Rattle.rtps_passes.proofs.judging.Judging.note.Goals as goal

pub returns : goal.returns
returns c = λ from pairs recording known.
    let acts = map values.spoken_value c.args.acts.now in
    let before = c.args.self.now.datagrams in
    let placed = placed_spec.placed_in recording in
    let more = placed_push recording acts before known.counted in
    let begun = later_taken from before pairs placed placed c.args.self.now.writers.items known.taken in
    let counted : before + 1 ≡ length recording + 1 = ap (λ n. n + 1) known.counted in
    let positive : 1 ≤ before + 1 = omega arith in
    let both = placed ++ placed_spec.placed_at (before + 1) acts in
    let noted = c.in_ok-note_answers.ensures.taken from pairs placed placed positive (earlier recording (before + 1) counted) begun in
    let heard = c.in_ok-hear_all.ensures.taken from (before + 1) pairs both placed noted in
    let all = subst (λ l. judging.HaveTakenIn from (before + 1) pairs l l c.hear_all.new.self.writers.items) more heard in
    let now : c.hear_all.new.self.datagrams ≡ before + 1 = c.in_ok-hear_all.ensures.datagrams ∙ c.in_ok-note_answers.ensures.datagrams in
    record {
      positive = known.positive;
      counted = omega (arith, now, known.counted, length-append recording (acts ∷ []));
      taken = subst (λ n. judging.HaveTakenIn from n pairs (placed_spec.placed_in (recording ++ acts ∷ [])) (placed_spec.placed_in (recording ++ acts ∷ [])) c.hear_all.new.self.writers.items) (sym now) all;
    }
