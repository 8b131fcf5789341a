use Rattle.std.proofs.Common.{◌≡◌, ◌∙◌, ◌&&◌, ◌||◌, ℕ, Bool, ap, nat_le, nat_lt, sym}
use Rattle.std.proofs.lemmas.Result.{on_ok_weaker}
use Rattle.rtps_receiver.specs.Said as said_spec
use Rattle.rtps_audit.specs.Placed as placed
use Rattle.rtps_coverage.specs.Stretches as stretches
use Rattle.rtps_evidence.specs.Amount as amount
use Rattle.rtps_evidence.specs.Locations as locations
use Rattle.rtps_evidence.specs.Received as received
use Rattle.rtps_evidence.proofs.AmountLemmas.{sent_apart, told_apart}
use Rattle.rtps_evidence.proofs.amount.HeardNumbers.note.Goals as goal

pub returns : goal.returns
returns c =
    let pair = c.args.pair in
    let old = c.args.self.now in
    let x = placed.placed_value c.args.placed.now in
    let claimed = c.args.claimed in
    let said = c.said_to-said.ensures in
    let its : ℕ → Bool = λ n. locations.sends pair.writer pair.reader n x in
    let early : (n : ℕ) → stretches.stretches_have c.push_number.new.stretches.items n ≡ (stretches.stretches_have old.early.items n || (nat_le claimed n && locations.sends pair.writer pair.reader n x)) =
    λ n. c.in_ok-push_number.ensures n ∙ ap (λ b. stretches.stretches_have old.early.items n || b) (c.number_from.ensures.same n ∙ ap (λ b. nat_le claimed n && b) (said.told n)) in
    let late : (n : ℕ) → stretches.stretches_have c.push_number-2.new.stretches.items n ≡ (stretches.stretches_have old.late.items n || (nat_lt n claimed && locations.sends pair.writer pair.reader n x)) =
    λ n. c.in_ok-push_number-2.ensures n ∙ ap (λ b. stretches.stretches_have old.late.items n || b) (c.number_below.ensures.same n ∙ ap (λ b. nat_lt n claimed && b) (said.told n)) in
    let gone : (n : ℕ) → stretches.stretches_have c.push_numbers.new.stretches.items n ≡ (stretches.stretches_have old.gone.items n || (nat_le claimed n && received.withdraws pair.writer pair.reader n x)) =
    λ n. c.in_ok-push_numbers.ensures n ∙ ap (λ b. stretches.stretches_have old.gone.items n || (nat_le claimed n && b)) (said.gone n) in
    on_ok_weaker c.push_below.result (λ pushes.
    let sent : (n : ℕ) → (stretches.stretches_have c.push_number.new.stretches.items n || stretches.stretches_have c.push_number-2.new.stretches.items n) ≡ (amount.has_sent old n || locations.sends pair.writer pair.reader n x) =
    λ n.
    ap (λ b. b || stretches.stretches_have c.push_number-2.new.stretches.items n) (early n) ∙ ap (λ b. (stretches.stretches_have old.early.items n || (nat_le claimed n && its n)) || b) (late n)
    ∙ sent_apart claimed n (stretches.stretches_have old.early.items n) (stretches.stretches_have old.late.items n) (locations.sends pair.writer pair.reader n x) in
    let gone_late : (n : ℕ) → stretches.stretches_have c.push_below.new.stretches.items n ≡ (stretches.stretches_have old.gone_late.items n || (nat_lt n claimed && received.withdraws pair.writer pair.reader n x)) =
    λ n. pushes n ∙ ap (λ b. stretches.stretches_have old.gone_late.items n || (nat_lt n claimed && b)) (said.gone n) in
    record {
      told = λ n.
          ap (λ b. (b || stretches.stretches_have c.push_numbers.new.stretches.items n) || stretches.stretches_have c.push_below.new.stretches.items n) (sent n)
          ∙ ap (λ b. ((amount.has_sent old n || its n) || b) || stretches.stretches_have c.push_below.new.stretches.items n) (gone n)
          ∙ ap (λ b. ((amount.has_sent old n || its n) || (stretches.stretches_have old.gone.items n || (nat_le claimed n && received.withdraws pair.writer pair.reader n x))) || b) (gone_late n)
          ∙ told_apart claimed n (amount.has_sent old n) (stretches.stretches_have old.gone.items n) (stretches.stretches_have old.gone_late.items n) (locations.sends pair.writer pair.reader n x) (received.withdraws pair.writer pair.reader n x) (locations.tells pair.writer pair.reader n x)
          (ap (λ b. b || its n) (sym (said.gone n)) ∙ ap (λ b. said_spec.numbers_have c.said_to-said.result.gone n || b) (sym (said.told n)) ∙ said.tells n);
      sent = sent;
      early = early;
      gone = gone;
    }) c.push_below.ensures
