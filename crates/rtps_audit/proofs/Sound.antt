-- What holds of each state that allowed events lead to.
use Rattle.std.proofs.Common.{◌≡◌, ℕ, suc, ◌<◌, ◌≤◌, List, [], ◌∷◌, length, sym, subst, arith, inl, inr}
use Rattle.std.specs.Prelude.{Contains}
use Rattle.std.proofs.lemmas.List.Elements.{Contains-append_left, Contains-push_cases}
use Rattle.std.proofs.lemmas.Bool.{cases_lt}
use Rattle.rtps_audit.specs.Delivery as delivery
use Rattle.rtps_audit.specs.RunVerdict as run_verdict
use Rattle.rtps_audit.specs.PlainVerdict as plain_verdict
use Rattle.rtps_audit.specs.Laws as laws
use Rattle.rtps_audit.proofs.DeliveryRuns.{IsFoundedBelow, took, place_within}

pub record IsSound (from : ℕ) (speech : delivery.Speech) (state : delivery.DeliveryState) : Type 0 where
  pub given : laws.HeldWasGiven from speech state
  pub held : laws.ClaimedIsHeld from speech state
  pub founded : IsFoundedBelow from speech state.sent

start-sound : {from : ℕ} (speech : delivery.Speech) → IsSound from speech delivery.start
start-sound speech = record {
  given = λ n word among. absurd (let lt = among.1 in omega arith);
  held = λ i n lt claims. absurd (omega arith);
  founded = λ i n lt claims. absurd (omega arith);
}

-- the state after the next datagram is sent
abbrev after_send : delivery.DeliveryState → delivery.DeliveryState
after_send old = record { sent = suc old.sent; held = old.held }

-- a number that is held has a word in a datagram that is sent
told_before : {from : ℕ} (speech : delivery.Speech) (old : delivery.DeliveryState) → laws.HeldWasGiven from speech old → (n : ℕ) → delivery.Holds old n → run_verdict.IsTold from speech old.sent n
told_before speech old given n (word, among) =
    let (i, k, lt, gives) = given n word among in
    record { place = i; act = k; word = word; earlier = lt; gives = gives }

send-sound : {from : ℕ} (speech : delivery.Speech) (old : delivery.DeliveryState) → delivery.MaySend from speech old → IsSound from speech old → IsSound from speech (after_send old)
send-sound {from} speech old may sound = record {
  given = λ n word among.
      let before = sound.given n word among in
      (before.0, before.1, omega arith, before.3);
  held = λ i n lt claims. elim (cases_lt i old.sent) [
    | inl before ↦ sound.held i n before claims
    | inr here ↦ may.1 n (now i here lt n claims)
  ];
  founded = λ i n lt claims. elim (cases_lt i old.sent) [
    | inl before ↦ sound.founded i n before claims
    | inr here ↦ at_last i here lt n claims
  ];
}
  where
    now : (i : ℕ) → old.sent ≤ i → i < suc old.sent → (n : ℕ) → delivery.Claims from speech i n → delivery.Claims from speech old.sent n
    now i here lt n claims = let same : i ≡ old.sent = omega arith in subst (λ j. delivery.Claims from speech j n) same claims

    at_last : (i : ℕ) → old.sent ≤ i → i < suc old.sent → (n : ℕ) → delivery.Claims from speech i n → run_verdict.IsTold from speech i n
    at_last i here lt n claims =
        let same : old.sent ≡ i = omega arith in
        subst (λ j. run_verdict.IsTold from speech j n) same (told_before speech old sound.given n (may.1 n (now i here lt n claims)))

take-given : {from : ℕ} (speech : delivery.Speech) (old : delivery.DeliveryState) (i k n : ℕ) (word : delivery.Word) → i < old.sent → delivery.Gives from speech i k n word → laws.HeldWasGiven from speech old → laws.HeldWasGiven from speech (took old n word)
take-given {from} speech old i k n word lt gives given m other among =
    elim (Contains-push_cases old.held (n, word) (m, other) among) [
      | inl before ↦ given m other before
      | inr here ↦ same here
    ]
  where
    same : ◌≡◌ {A = ℕ × delivery.Word} (n, word) (m, other) → (i : ℕ) × (k : ℕ) × (i < old.sent) × delivery.Gives from speech i k m other
    same e = (i, k, lt, subst (λ (p : ℕ × delivery.Word). delivery.Gives from speech i k p.0 p.1) e gives)

take-sound : {from : ℕ} (speech : delivery.Speech) (old : delivery.DeliveryState) (i k n : ℕ) (word : delivery.Word) → i < old.sent → delivery.Gives from speech i k n word → IsSound from speech old → IsSound from speech (took old n word)
take-sound speech old i k n word lt gives sound = record {
  given = take-given speech old i k n word lt gives sound.given;
  held = λ j m earlier claims. let h = sound.held j m earlier claims in (h.0, Contains-append_left old.held _ _ h.1);
  founded = sound.founded;
}

step-sound : {from : ℕ} (speech : delivery.Speech) (old : delivery.DeliveryState) (event : delivery.Event) (new : delivery.DeliveryState) → delivery.Step from speech old event new → IsSound from speech old → IsSound from speech new
step-sound {from} speech old delivery.Event.Send new (may, e) sound = subst (IsSound from speech) (sym e) (send-sound speech old may sound)
step-sound {from} speech old (delivery.Event.Take i k n word) new (lt, gives, e) sound = subst (IsSound from speech) (sym e) (take-sound speech old i k n word lt gives sound)

follows-sound : {from : ℕ} (speech : delivery.Speech) (old : delivery.DeliveryState) (events : List delivery.Event) (new : delivery.DeliveryState) → delivery.Follows from speech old events new → IsSound from speech old → IsSound from speech new
follows-sound {from} speech old [] new e sound = subst (IsSound from speech) (sym e) sound
follows-sound speech old (event ∷ events) new (mid, step, follows) sound =
    follows-sound speech mid events new follows (step-sound speech old event mid step sound)

pub reached-sound : {from : ℕ} (speech : delivery.Speech) (state : delivery.DeliveryState) → delivery.IsReached from speech state → IsSound from speech state
reached-sound speech state (events, follows) = follows-sound speech delivery.start events state follows (start-sound speech)

-- where a run exists, each claim is founded
pub founded_from_run : {from : ℕ} (speech : delivery.Speech) (end : delivery.DeliveryState) → delivery.Ends from speech end → plain_verdict.IsFounded from speech
founded_from_run speech end (reached, all) j n claims =
    let within : j < length speech = place_within speech j claims.datagram claims.stands in
    (reached-sound speech end reached).founded j n (omega arith) claims

-- a run ends with each claimed number held
pub held_from_claim : {from : ℕ} (speech : delivery.Speech) (end : delivery.DeliveryState) (j n : ℕ) → delivery.Ends from speech end → delivery.Claims from speech j n → delivery.Holds end n
held_from_claim speech end j n (reached, all) claims =
    let within : j < length speech = place_within speech j claims.datagram claims.stands in
    (reached-sound speech end reached).held j n (omega arith) claims

-- what a run ends with was spoken
pub spoken_from_held : {from : ℕ} (speech : delivery.Speech) (end : delivery.DeliveryState) (n : ℕ) (word : delivery.Word) → delivery.Ends from speech end → Contains end.held (n, word) → plain_verdict.IsSpoken from speech n word
spoken_from_held speech end n word (reached, all) among =
    let given = (reached-sound speech end reached).given n word among in
    record { place = given.0; act = given.1; gives = given.3 }
