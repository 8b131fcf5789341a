use Rattle.std.proofs.Common.{◌≡◌, ◌∙◌, ◌++◌, ◌∷◌, [], ◌==◌, ℕ, Bool, Some, ap, arith, cond, false, nat_lt, sym, true}
use Rattle.std.proofs.lemmas.Bool.Decides.{nat_tests}
use Rattle.std.specs.BTreeMap.{get}
use Rattle.std.specs.Ordering.{is_eq, nat_cmp}
use Rattle.rtps_audit.specs.Placed as placed
use Rattle.rtps_coverage.specs.Stretches as stretches
use Rattle.rtps_receiver.specs.Said as said
use Rattle.rtps_evidence.specs.Kinds as kinds
use Rattle.rtps_evidence.specs.Locations as locations
use Rattle.rtps_evidence.specs.Missed as missed
use Rattle.rtps_evidence.specs.Runs as runs
use Rattle.rtps_evidence.proofs.SendingLemmas.{brings_again, brings_first, brings_none, not_brought, not_sent_yet, sendings_kept, sendings_more, sent_already}
use Rattle.rtps_evidence.proofs.sendings.Sendings.note.Goals as goal
use Rattle.rtps_evidence.proofs.sendings.Sendings.note.Goals.{then-end_at-number-via-then-end_at-number, then-end_at-number-via-else-end_at-number+then-contains_key}

pub returns-in_default : goal.returns-in_default
returns-in_default c = λ acts are.
    let pair = c.args.pair in
    let x = placed.placed_value c.args.placed.now in
    sendings_kept (stretches.stretches_have c.args.numbers.now) (kinds.first_brought pair acts) (kinds.first_brought pair (acts ++ x ∷ [])) c.args.self.now
    (λ n is. not_brought pair n acts x (sym (c.said_to.ensures.brought n) ∙ ap (said.is_at n) c.in_default.is)) are

pub returns-then-end_at-number : goal.returns-then-end_at-number
returns-then-end_at-number c = λ acts are.
    let pair = c.args.pair in
    let x = placed.placed_value c.args.placed.now in
    let number = c.in-Some.number in
    let has : ℕ → Bool = stretches.stretches_have c.args.numbers.now in
    let brought : (n : ℕ) → missed.brings pair.writer pair.reader n x ≡ (number == n) = λ n. sym (c.said_to.ensures.brought n) ∙ ap (said.is_at n) c.in-Some.is in
    sendings_kept has (kinds.first_brought pair acts) (kinds.first_brought pair (acts ++ x ∷ [])) c.args.self.now
    (elim c.then-end_at-number.branch [
      | then-end_at-number-via-then-end_at-number w ↦
          let past = w.if-end_at-number.true in
          let out : nat_lt number c.end_at.result ≡ false = grind (arith, nat_tests, past) in
          brings_none has pair number acts x brought (sym (c.end_at.ensures.reach number) ∙ out)
      | then-end_at-number-via-else-end_at-number+then-contains_key w ↦
          λ n is. brings_again pair number acts x brought (sent_already has (kinds.first_brought pair acts) c.args.self.now number are (sym w.contains_key.ensures ∙ w.if-contains_key.true)) n
    ])
    are

pub returns : goal.returns
returns c = λ acts are.
    let pair = c.args.pair in
    let x = placed.placed_value c.args.placed.now in
    let number = c.in-Some.number in
    let has : ℕ → Bool = stretches.stretches_have c.args.numbers.now in
    let brought : (n : ℕ) → missed.brings pair.writer pair.reader n x ≡ (number == n) = λ n. sym (c.said_to.ensures.brought n) ∙ ap (said.is_at n) c.in-Some.is in
    let lower = c.if-end_at-number.false in
    let inside : nat_lt number c.end_at.result ≡ true = grind (arith, nat_tests, lower) in
    let is : has number ≡ true = sym (c.end_at.ensures.reach number) ∙ inside in
    let none = not_sent_yet has (kinds.first_brought pair acts) c.args.self.now number are is (sym c.contains_key.ensures ∙ c.if-contains_key.false) in
    sendings_more has (kinds.first_brought pair acts) (kinds.first_brought pair (acts ++ x ∷ [])) number (locations.location_of x) c.args.self.now (record { places = c.insert.new.self; span = Some c.span_with.result })
    (brings_first has pair number acts x brought is none)
    (λ n. c.in_ok-insert.ensures.updates.0 n ∙ ap (λ place. cond (is_eq (nat_cmp number n)) (Some place) (get nat_cmp c.args.self.now.places n)) c.location_of-place.ensures)
    (ap Some (c.span_with.ensures ∙ ap (runs.span_with c.args.self.now.span) c.location_of-place.ensures)) are
