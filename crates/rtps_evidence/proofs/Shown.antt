-- What can be seen at places, as the speech of the recording has it.
use Rattle.std.proofs.lemmas.Bool.Decides.{nat_tests}
use Rattle.std.proofs.Common.{◌≡◌, ◌+◌, ◌<◌, ◌≤◌, ℕ, List, Option, Some, None, ap, arith}
use Rattle.std.specs.Prelude.{Contains, unwrap_or}
use Rattle.rtps_discovery.specs.declared.matching.Pair.{Pair}
use Rattle.rtps_wire.specs.Values as wire_values
use Rattle.rtps_receiver.specs.Values as receiver_values
use Rattle.rtps_audit.specs.Delivery as delivery
use Rattle.rtps_audit.specs.Placed as placed
use Rattle.rtps_audit.specs.PlainVerdict as plain_verdict
use Rattle.rtps_audit.specs.Speech as speech
use Rattle.rtps_audit.proofs.Offered.{announced_is_reached, base_is_claim, claim_is_base, claimed_is_held, given_is_word, held_is_spoken, run_is_founded, two_are_held, unclaimed_is_missed, word_is_given}
use Rattle.rtps_evidence.specs.Locations as locations
use Rattle.rtps_evidence.specs.Certificates as certificates

some_above : (o : Option ℕ) (n : ℕ) → n < unwrap_or o 0 → (m : ℕ) × (o ≡ Some m) × (n < m)
some_above o n h = grind (arith, nat_tests)

some_at : (o : Option ℕ) (n : ℕ) → 1 ≤ n → n ≤ unwrap_or o 0 → (m : ℕ) × (o ≡ Some m) × (n ≤ m)
some_at o n h h2 = grind (arith, nat_tests)

told_word : (word : Option delivery.Word) (payload : wire_values.PayloadValue) → locations.payload_in word ≡ Some payload → word ≡ Some (delivery.Word.Told payload)
told_word word payload h = grind (arith, nat_tests)

claims_there : (from : ℕ) (pair : Pair) (recording : List (List receiver_values.ActValue)) (n : ℕ) (at : placed.PlacedValue) → delivery.IsAsked from n → certificates.ClaimsAt pair recording n at
    → (j : ℕ) × delivery.Claims from (speech.speech_by pair.writer pair.reader recording) j n × (at.datagram ≡ j + 1)
claims_there from pair recording n at asked claim =
    let base = some_above (speech.base_for pair.writer pair.reader at.act) n claim.above in
    base_is_claim from pair.writer pair.reader recording n base.0 at claim.among base.1 base.2 asked

spoken_there : (from : ℕ) (pair : Pair) (recording : List (List receiver_values.ActValue)) (n : ℕ) (payload : wire_values.PayloadValue) (at : placed.PlacedValue) → delivery.IsAsked from n → certificates.SendsAt pair recording n payload at
    → plain_verdict.IsSpoken from (speech.speech_by pair.writer pair.reader recording) n (delivery.Word.Told payload)
spoken_there from pair recording n payload at asked sends =
    let gives = word_is_given from pair.writer pair.reader recording n (delivery.Word.Told payload) at sends.among (told_word (speech.word_for pair.writer pair.reader at.act n) payload sends.carried) asked in
    record { place = gives.0; act = gives.1; gives = gives.2 }

pub unfounded_is_shown : certificates.UnfoundedIsShown
unfounded_is_shown from pair recording n at asked claim untold run =
    let there = claims_there from pair recording n at asked claim in
    let told = run_is_founded from (speech.speech_by pair.writer pair.reader recording) run there.0 n there.1 in
    let teller = given_is_word from pair.writer pair.reader recording told.place told.act n told.word told.gives in
    let earlier = told.earlier in
    let one = there.2 in
    let other = teller.3 in
    let none : speech.word_for pair.writer pair.reader teller.0.act n ≡ None = untold teller.0 teller.1 (omega arith) in
    let some : speech.word_for pair.writer pair.reader teller.0.act n ≡ Some told.word = teller.2 in
    cc

pub open_is_shown : certificates.OpenIsShown
open_is_shown from pair recording n at asked announces unclaimed run =
    let number = some_at (speech.announced_for pair.writer at.act) n asked.0 announces.reached in
    let reached = announced_is_reached from pair.writer pair.reader recording number.0 at announces.among number.1 in
    let le = number.2 in
    unclaimed_is_missed from (speech.speech_by pair.writer pair.reader recording) n run (
      asked,
      omega arith,
      λ claimed.
          let there = claim_is_base from pair.writer pair.reader recording claimed.0 n claimed.1 in
          let above = there.4 in
          let most = unclaimed there.0 there.2 in
          let is : locations.base_said pair.writer pair.reader there.0 ≡ there.1 = ap (λ o. unwrap_or o 0) there.3 in
          omega arith,
    )

pub conflict_is_shown : certificates.ConflictIsShown
conflict_is_shown from pair recording n one other x y asked first second run =
    two_are_held from (speech.speech_by pair.writer pair.reader recording) n (delivery.Word.Told x) (delivery.Word.Told y) run (spoken_there from pair recording n x one asked first) (spoken_there from pair recording n y other asked second)

pub complete_is_shown : certificates.CompleteIsShown
complete_is_shown from pair recording claimed one_payload end ends n asked reached =
    let at = claimed n asked reached in
    let there = claims_there from pair recording n at.0 asked at.1 in
    record {
      held = claimed_is_held from (speech.speech_by pair.writer pair.reader recording) end there.0 n ends there.1;
      one_payload = λ x y first second.
          let one = sent_there x first in
          let other = sent_there y second in
          one_payload n one.0 other.0 x y asked one.1 other.1;
    }
  where
    sent_there : (x : wire_values.PayloadValue) → Contains end.held (n, delivery.Word.Told x) → (at : placed.PlacedValue) × certificates.SendsAt pair recording n x at
    sent_there x held =
        let spoken = held_is_spoken from (speech.speech_by pair.writer pair.reader recording) end n (delivery.Word.Told x) ends held in
        let heard = given_is_word from pair.writer pair.reader recording spoken.place spoken.act n (delivery.Word.Told x) spoken.gives in
        (heard.0, record { among = heard.1; carried = ap locations.payload_in heard.2 })
