use Rattle.std.proofs.Common.{ℕ, ◌≤◌, ◌<◌, ◌∙◌, ◌++◌, ◌∷◌, [], All, List, ap, append_assoc, arith, map, subst, sym, take}
use Rattle.std.proofs.lemmas.List.{take_all}
use Rattle.rtps_receiver.specs.Values as values
use Rattle.rtps_audit.specs.Placed as placed_spec
use Rattle.rtps_audit.proofs.Offered.{placed_more}
use Rattle.rtps_passes.specs.Judging as judging
use Rattle.rtps_passes.proofs.judging.Judging.note_answers.Goals as goal

pub loop-act-preserved : goal.loop-act-preserved
loop-act-preserved c =
    let acts = c.args.acts.now in
    let k = c.loop-act.act-index in
    let same = c.loop-act.invariant.datagrams in
    let new = c.note_answer.new.self.writers.items in
    record {
      datagrams = c.in_ok-note_answer.ensures.datagrams ∙ same;
      taken = λ from pairs asked heard counted early known.
          let datagram = c.args.self.now.datagrams in
          let so_far = placed_spec.placed_at datagram (map values.spoken_value (take k acts)) in
          let one : ℕ → List placed_spec.PlacedValue = λ n. record { datagram = n; act = values.spoken_value c.act-item.result } ∷ [] in
          let more = subst (λ n. 1 ≤ n → All (λ (at : placed_spec.PlacedValue). at.datagram < n) heard → judging.HaveTakenIn from n pairs (asked ++ so_far) heard c.loop-act.self.writers.items → judging.HaveTakenIn from n pairs ((asked ++ so_far) ++ one n) heard new) same
          (c.in_ok-note_answer.ensures.taken from pairs (asked ++ so_far) heard) in
          subst (λ l. judging.HaveTakenIn from datagram pairs l heard new) (append_assoc asked so_far _ ∙ ap (λ l. asked ++ l) (sym (placed_more datagram acts k c.act-item.result c.loop-act-test.true c.act-item.is)))
          (more counted early (c.loop-act.invariant.taken from pairs asked heard counted early known));
    }

pub returns-clause-taken : goal.returns-clause-taken
returns-clause-taken c = λ from pairs asked heard counted early known.
    let datagram = c.args.self.now.datagrams in
    subst (λ l. judging.HaveTakenIn from datagram pairs (asked ++ placed_spec.placed_at datagram (map values.spoken_value l)) heard c.loop-act.self.writers.items)
    (take_all c.loop-act.act-index c.args.acts.now (omega (arith, c.loop-act-test.false))) (c.loop-act.invariant.taken from pairs asked heard counted early known)
