-- Received is exact: what every run ends with, and how a run ends without a payload.
use Rattle.std.proofs.Common.{◌≡◌, ℕ, suc, ◌+◌, ◌<◌, ◌≤◌, ◌&&◌, Bool, true, false, nat_lt, not, List, [], ◌∷◌, ◌++◌, Option, Some, None, refl, sym, ◌∙◌, ap, subst, arith, inl, inr}
use Rattle.std.specs.Prelude.{Contains, unwrap_or}
use Rattle.std.specs.List.{list_any}
use Rattle.std.proofs.lemmas.Bool.{cases_lt, and_parts, not-true}
use Rattle.std.proofs.lemmas.Bool.Decides.{nat_tests}
use Rattle.std.proofs.lemmas.List.Elements.{Contains-append_left}
use Rattle.std.proofs.lemmas.List.Folds.{list_any-from_Any}
use Rattle.rtps_ids.specs.declared.identity.Guid.{Guid}
use Rattle.rtps_discovery.specs.declared.matching.Pair.{Pair}
use Rattle.rtps_wire.specs.Values as wire_values
use Rattle.rtps_receiver.specs.Values as receiver_values
use Rattle.rtps_audit.specs.Delivery as delivery
use Rattle.rtps_audit.specs.Placed as placed
use Rattle.rtps_audit.specs.Speech as speech
use Rattle.rtps_audit.proofs.Offered.{Follows-append, base_is_claim, claim_is_base, given_is_word, place_within, reached-sound, run_is_founded, word_is_given}
use Rattle.rtps_evidence.specs.Locations as locations
use Rattle.rtps_evidence.specs.Received as received
use Rattle.rtps_evidence.proofs.HushedRuns.{IsGoneBefore, run_without_payload}
use Rattle.rtps_evidence.proofs.PlacedOrder.{first_is_first, found_is_there, none_found, none_passes, placed_ordered, some_passes}

-- ---- what is held of a number that is claimed

-- a word for n that is held, and that a datagram before place j gives
pub record HoldsFrom (from : ℕ) (speech : delivery.Speech) (state : delivery.DeliveryState) (j n : ℕ) : Type 0 where
  pub word : delivery.Word
  pub held : Contains state.held (n, word)
  pub place : ℕ
  pub act : ℕ
  pub earlier : place < j
  pub gives : delivery.Gives from speech place act n word

-- of each answer in a datagram that is sent, n is held by a word that stands before it
abbrev ClaimedBefore : ℕ → delivery.Speech → ℕ → delivery.DeliveryState → Type 0
ClaimedBefore from speech n state = (j : ℕ) → j < state.sent → delivery.Claims from speech j n → HoldsFrom from speech state j n

reached_next : {from : ℕ} (speech : delivery.Speech) (old new : delivery.DeliveryState) (event : delivery.Event) → delivery.IsReached from speech old → delivery.Step from speech old event new → delivery.IsReached from speech new
reached_next {from} speech old new event (events, follows) step =
    (events ++ event ∷ [], Follows-append from speech delivery.start old new events (event ∷ []) follows (new, step, refl))

before_next : {from : ℕ} (speech : delivery.Speech) (n : ℕ) (old : delivery.DeliveryState) (event : delivery.Event) (new : delivery.DeliveryState) → delivery.IsReached from speech old → delivery.Step from speech old event new → ClaimedBefore from speech n old → ClaimedBefore from speech n new
before_next {from} speech n old delivery.Event.Send new reached (may, e) before = subst (ClaimedBefore from speech n) (sym e) sent
  where
    sent : ClaimedBefore from speech n (record { sent = suc old.sent; held = old.held })
    sent j lt claims = elim (cases_lt j old.sent) [
      | inl earlier ↦
          let had = before j earlier claims in
          record { word = had.word; held = had.held; place = had.place; act = had.act; earlier = had.earlier; gives = had.gives }
      | inr here ↦
          let same : j ≡ old.sent = omega arith in
          let holds = may.1 n (subst (λ i. delivery.Claims from speech i n) same claims) in
          let given = (reached-sound speech old reached).given n holds.0 holds.1 in
          let lower = given.2 in
          record { word = holds.0; held = holds.1; place = given.0; act = given.1; earlier = omega arith; gives = given.3 }
    ]
before_next {from} speech n old (delivery.Event.Take i k m word) new reached (lt, gives, e) before = subst (ClaimedBefore from speech n) (sym e) taken
  where
    taken : ClaimedBefore from speech n (record { sent = old.sent; held = old.held ++ (m, word) ∷ [] })
    taken j lt claims =
        let had = before j lt claims in
        record { word = had.word; held = Contains-append_left old.held ((m, word) ∷ []) (n, had.word) had.held; place = had.place; act = had.act; earlier = had.earlier; gives = had.gives }

before_each : {from : ℕ} (speech : delivery.Speech) (n : ℕ) (old : delivery.DeliveryState) (events : List delivery.Event) (new : delivery.DeliveryState) → delivery.IsReached from speech old → delivery.Follows from speech old events new → ClaimedBefore from speech n old → ClaimedBefore from speech n new
before_each {from} speech n old [] new reached e before = subst (ClaimedBefore from speech n) (sym e) before
before_each speech n old (event ∷ events) new reached (mid, step, follows) before =
    before_each speech n mid events new (reached_next speech old mid event reached step) follows (before_next speech n old event mid reached step before)

-- a run ends with a word for each number that is claimed, which stands before the claim
held_from_before : {from : ℕ} (speech : delivery.Speech) (end : delivery.DeliveryState) (j n : ℕ) → delivery.Ends from speech end → delivery.Claims from speech j n → HoldsFrom from speech end j n
held_from_before {from} speech end j n ((events, follows), all) claims =
    let within = place_within speech j claims.datagram claims.stands in
    before_each speech n delivery.start events end ([], refl) follows none j (omega arith) claims
  where
    none : ClaimedBefore from speech n delivery.start
    none i lt claims = absurd (omega arith)

-- ---- words and tests

gone_word : (word : Option delivery.Word) → received.is_gone word ≡ true → word ≡ Some delivery.Word.Gone
gone_word word h = grind (arith, nat_tests)

-- an act that tells a number gone before a datagram does
passes_gone : (writer reader : Guid) (n datagram : ℕ) (at : placed.PlacedValue) → at.datagram < datagram → speech.word_for writer reader at.act n ≡ Some delivery.Word.Gone → received.withdraws_before writer reader n datagram at ≡ true
passes_gone writer reader n datagram at lt word = grind (arith, nat_tests)

passes_sent : (writer reader : Guid) (n datagram : ℕ) (at : placed.PlacedValue) (payload : wire_values.PayloadValue) → at.datagram < datagram → speech.word_for writer reader at.act n ≡ Some (delivery.Word.Told payload) → received.sends_before writer reader n datagram at ≡ true
passes_sent writer reader n datagram at payload lt word = grind (arith, nat_tests)

-- an act that passes the test of a claim is an answer
claim_there : (from : ℕ) (pair : Pair) (recording : List (List receiver_values.ActValue)) (n : ℕ) (at : placed.PlacedValue) → delivery.IsAsked from n → Contains (placed.placed_in recording) at → received.claims pair.writer pair.reader n at ≡ true
    → (j : ℕ) × delivery.Claims from (speech.speech_by pair.writer pair.reader recording) j n × (at.datagram ≡ j + 1)
claim_there from pair recording n at asked among is =
    let above : n < locations.base_said pair.writer pair.reader at = grind (arith, nat_tests, is) in
    let base = some_above (speech.base_for pair.writer pair.reader at.act) n above in
    base_is_claim from pair.writer pair.reader recording n base.0 at among base.1 base.2 asked
  where
    some_above : (o : Option ℕ) (n : ℕ) → n < unwrap_or o 0 → (m : ℕ) × (o ≡ Some m) × (n < m)
    some_above None n lt = absurd (omega arith)
    some_above (Some m) n lt = (m, refl, lt)

-- and the other way round
claim_passes : (from : ℕ) (pair : Pair) (recording : List (List receiver_values.ActValue)) (j n : ℕ) → delivery.Claims from (speech.speech_by pair.writer pair.reader recording) j n
    → (at : placed.PlacedValue) × Contains (placed.placed_in recording) at × (received.claims pair.writer pair.reader n at ≡ true) × (at.datagram ≡ j + 1)
claim_passes from pair recording j n is =
    let there = claim_is_base from pair.writer pair.reader recording j n is in
    let above = there.4 in
    let said : locations.base_said pair.writer pair.reader there.0 ≡ there.1 = ap (λ o. unwrap_or o 0) there.3 in
    (there.0, there.2, grind (arith, nat_tests, said, above), there.5)

-- ---- received is certain

certain : (from : ℕ) (pair : Pair) (recording : List (List receiver_values.ActValue)) (n : ℕ) (claim : Option placed.PlacedValue) → delivery.IsAsked from n → received.first_claiming pair.writer pair.reader n (placed.placed_in recording) ≡ claim
    → received.is_certain_by pair.writer pair.reader n (placed.placed_in recording) claim ≡ true
    → (end : delivery.DeliveryState) → delivery.Ends from (speech.speech_by pair.writer pair.reader recording) end → received.HoldsPayload end n
certain from pair recording n None asked found is end ends = absurd (let no : false ≡ true = is in cc)
certain from pair recording n (Some claim) asked found is end ends =
    let there = found_is_there (received.claims pair.writer pair.reader n) (placed.placed_in recording) claim found in
    let here = claim_there from pair recording n claim asked there.0 there.1 in
    let held = held_from_before (speech.speech_by pair.writer pair.reader recording) end here.0 n ends here.1 in
    by held here.2 held.word refl
  where
    never : list_any (received.withdraws_before pair.writer pair.reader n claim.datagram) (placed.placed_in recording) ≡ false
    never = not-true (list_any (received.withdraws_before pair.writer pair.reader n claim.datagram) (placed.placed_in recording))
        (and_parts (list_any (received.sends_before pair.writer pair.reader n claim.datagram) (placed.placed_in recording)) _ is).1

    by : {j : ℕ} (held : HoldsFrom from (speech.speech_by pair.writer pair.reader recording) end j n) → claim.datagram ≡ j + 1 → (word : delivery.Word) → held.word ≡ word → received.HoldsPayload end n
    by held at (delivery.Word.Told payload) same = (payload, subst (λ (w : delivery.Word). Contains end.held (n, w)) same held.held)
    by {j} held at delivery.Word.Gone same =
        let gives : delivery.Gives from (speech.speech_by pair.writer pair.reader recording) held.place held.act n delivery.Word.Gone = subst (λ (w : delivery.Word). delivery.Gives from (speech.speech_by pair.writer pair.reader recording) held.place held.act n w) same held.gives in
        let teller = given_is_word from pair.writer pair.reader recording held.place held.act n delivery.Word.Gone gives in
        let place = teller.3 in
        let earlier = held.earlier in
        absurd (none_passes (received.withdraws_before pair.writer pair.reader n claim.datagram) (placed.placed_in recording) teller.0 never teller.1
        (passes_gone pair.writer pair.reader n claim.datagram teller.0 (omega arith) teller.2))

-- where a run exists, a number that is claimed and not told gone before the first claim is sent before
pub sent_before : (from : ℕ) (pair : Pair) (recording : List (List receiver_values.ActValue)) (n : ℕ) (claim : placed.PlacedValue) → delivery.IsAsked from n → delivery.HasRun from (speech.speech_by pair.writer pair.reader recording)
    → received.first_claiming pair.writer pair.reader n (placed.placed_in recording) ≡ Some claim → list_any (received.withdraws_before pair.writer pair.reader n claim.datagram) (placed.placed_in recording) ≡ false
    → list_any (received.sends_before pair.writer pair.reader n claim.datagram) (placed.placed_in recording) ≡ true
sent_before from pair recording n claim asked run found never =
    let there = found_is_there (received.claims pair.writer pair.reader n) (placed.placed_in recording) claim found in
    let here = claim_there from pair recording n claim asked there.0 there.1 in
    let told = run_is_founded from (speech.speech_by pair.writer pair.reader recording) run here.0 n here.1 in
    let teller = given_is_word from pair.writer pair.reader recording told.place told.act n told.word told.gives in
    let at = here.2 in
    let earlier = told.earlier in
    let place = teller.3 in
    by teller.0 teller.1 (omega arith) told.word teller.2
  where
    by : (at : placed.PlacedValue) → Contains (placed.placed_in recording) at → at.datagram < claim.datagram → (word : delivery.Word) → speech.word_for pair.writer pair.reader at.act n ≡ Some word → list_any (received.sends_before pair.writer pair.reader n claim.datagram) (placed.placed_in recording) ≡ true
    by at among lt (delivery.Word.Told payload) says =
        let passes = passes_sent pair.writer pair.reader n claim.datagram at payload lt says in
        list_any-from_Any (received.sends_before pair.writer pair.reader n claim.datagram) (placed.placed_in recording) (among.0, at, among.1, among.2, passes)
    by at among lt delivery.Word.Gone says = absurd (none_passes (received.withdraws_before pair.writer pair.reader n claim.datagram) (placed.placed_in recording) at never among (passes_gone pair.writer pair.reader n claim.datagram at lt says))

-- ---- and what is not, is not

-- a datagram before the claim tells n gone
gone_there : (from : ℕ) (pair : Pair) (recording : List (List receiver_values.ActValue)) (n datagram j : ℕ) → delivery.IsAsked from n → datagram ≤ j + 1
    → list_any (received.withdraws_before pair.writer pair.reader n datagram) (placed.placed_in recording) ≡ true → IsGoneBefore from (speech.speech_by pair.writer pair.reader recording) j n
gone_there from pair recording n datagram j asked le some =
    let teller = some_passes (received.withdraws_before pair.writer pair.reader n datagram) (placed.placed_in recording) some in
    let tests = and_parts (nat_lt teller.0.datagram datagram) (received.withdraws pair.writer pair.reader n teller.0) teller.2 in
    let early : teller.0.datagram < datagram = (let is = tests.0 in grind (arith, nat_tests, is)) in
    let given = word_is_given from pair.writer pair.reader recording n delivery.Word.Gone teller.0 teller.1 (gone_word (speech.word_for pair.writer pair.reader teller.0.act n) tests.1) asked in
    let place = given.3 in
    record { place = given.0; act = given.1; earlier = omega arith; gives = given.2 }

-- a claim of n stands behind a datagram that tells it gone
gone_before_claim : (from : ℕ) (pair : Pair) (recording : List (List receiver_values.ActValue)) (n : ℕ) (claim : Option placed.PlacedValue) → delivery.IsAsked from n → delivery.HasRun from (speech.speech_by pair.writer pair.reader recording)
    → received.first_claiming pair.writer pair.reader n (placed.placed_in recording) ≡ claim → received.is_certain_by pair.writer pair.reader n (placed.placed_in recording) claim ≡ false
    → (j : ℕ) → delivery.Claims from (speech.speech_by pair.writer pair.reader recording) j n → IsGoneBefore from (speech.speech_by pair.writer pair.reader recording) j n
gone_before_claim from pair recording n None asked run found is j claim =
    let there = claim_passes from pair recording j n claim in
    absurd (none_found (received.claims pair.writer pair.reader n) (placed.placed_in recording) there.0 found there.1 there.2)
gone_before_claim from pair recording n (Some first) asked run found is j claim =
    by (list_any (received.withdraws_before pair.writer pair.reader n first.datagram) (placed.placed_in recording)) refl
  where
    no_later : first.datagram ≤ j + 1
    no_later =
        let there = claim_passes from pair recording j n claim in
        let place = there.3 in
        let le = first_is_first (received.claims pair.writer pair.reader n) 1 (placed.placed_in recording) there.0 first (placed_ordered 0 recording) found there.1 there.2 in
        omega arith

    by : (b : Bool) → list_any (received.withdraws_before pair.writer pair.reader n first.datagram) (placed.placed_in recording) ≡ b → IsGoneBefore from (speech.speech_by pair.writer pair.reader recording) j n
    by true some = gone_there from pair recording n first.datagram j asked no_later some
    by false none =
        let sent = sent_before from pair recording n first asked run found none in
        let certain : received.is_certain_by pair.writer pair.reader n (placed.placed_in recording) (Some first) ≡ true = ap (λ b. b && not (list_any (received.withdraws_before pair.writer pair.reader n first.datagram) (placed.placed_in recording))) sent ∙ ap not none in
        absurd (let no : true ≡ false = sym certain ∙ is in cc)

pub received_is_exact : received.ReceivedIsExact
received_is_exact from pair recording n asked run = record {
  certain = certain from pair recording n (received.first_claiming pair.writer pair.reader n (placed.placed_in recording)) asked refl;
  uncertain = λ is. run_without_payload n (speech.speech_by pair.writer pair.reader recording) (run_is_founded from (speech.speech_by pair.writer pair.reader recording) run)
      (gone_before_claim from pair recording n (received.first_claiming pair.writer pair.reader n (placed.placed_in recording)) asked run refl is);
}
