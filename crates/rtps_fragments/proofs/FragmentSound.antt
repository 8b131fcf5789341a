-- What holds of each state that allowed events lead to.
use Rattle.std.proofs.lemmas.Bool.Decides.{nat_tests}
use Rattle.std.proofs.Common.{◌≡◌, ℕ, suc, ◌<◌, ◌≤◌, List, [], ◌∷◌, sym, subst, arith, inl, inr}
use Rattle.std.proofs.lemmas.List.Elements.{Contains-append_left, Contains-push_cases}
use Rattle.std.proofs.lemmas.Bool.{cases_lt}
use Rattle.rtps_wire.specs.Values as values
use Rattle.rtps_audit.specs.Delivery as delivery
use Rattle.rtps_fragments.specs.FragmentDelivery as fragment_delivery
use Rattle.rtps_fragments.specs.FragmentVerdict as fragment_verdict
use Rattle.rtps_fragments.proofs.FragmentRuns.{payload_of_more, word_of_more, said_later, sent_later, took_word, took_fragment}

-- What is held was given by a datagram that is sent. What an answer in such a datagram claims has a word, and had one by earlier
-- datagrams.
pub record IsFragmentSound (from : ℕ) (speech : fragment_delivery.FragmentSpeech) (state : fragment_delivery.FragmentState) : Type 0 where
  pub words : (n : ℕ) (word : delivery.Word) → fragment_delivery.HoldsWord state n word → fragment_verdict.IsSaidBefore from speech state.sent n word
  pub fragments : (f : fragment_delivery.Fragment) → fragment_delivery.HoldsFragment state f → fragment_verdict.IsSentBefore from speech state.sent f
  pub held : (i n : ℕ) → i < state.sent → delivery.Claims from (fragment_delivery.said_in speech) i n → fragment_delivery.HasWord state n
  pub founded : (i n : ℕ) → i < state.sent → delivery.Claims from (fragment_delivery.said_in speech) i n → fragment_verdict.IsWordBefore from speech i n

start_sound : {from : ℕ} (speech : fragment_delivery.FragmentSpeech) → IsFragmentSound from speech fragment_delivery.fragment_start
start_sound speech = grind (arith, nat_tests)

-- what the reader has was given before
pub payload_given : {from : ℕ} (speech : fragment_delivery.FragmentSpeech) (state : fragment_delivery.FragmentState) → IsFragmentSound from speech state → (n : ℕ) (payload : values.PayloadValue) → fragment_delivery.HasPayload state n payload → fragment_verdict.IsPayloadBefore from speech state.sent n payload
payload_given {from} speech state sound n payload has =
    payload_of_more (fragment_delivery.HoldsWord state) (fragment_verdict.IsSaidBefore from speech state.sent) (fragment_delivery.HoldsFragment state) (fragment_verdict.IsSentBefore from speech state.sent) sound.words sound.fragments n payload has

pub word_given : {from : ℕ} (speech : fragment_delivery.FragmentSpeech) (state : fragment_delivery.FragmentState) → IsFragmentSound from speech state → (n : ℕ) → fragment_delivery.HasWord state n → fragment_verdict.IsWordBefore from speech state.sent n
word_given {from} speech state sound n has =
    word_of_more (fragment_delivery.HoldsWord state) (fragment_verdict.IsSaidBefore from speech state.sent) (fragment_delivery.HoldsFragment state) (fragment_verdict.IsSentBefore from speech state.sent) sound.words sound.fragments n has

-- the state after the next datagram is sent
abbrev after_send : fragment_delivery.FragmentState → fragment_delivery.FragmentState
after_send old = record { sent = suc old.sent; held = old.held; fragments = old.fragments }

send_sound : {from : ℕ} (speech : fragment_delivery.FragmentSpeech) (old : fragment_delivery.FragmentState) → fragment_delivery.MaySendFragments from speech old → IsFragmentSound from speech old → IsFragmentSound from speech (after_send old)
send_sound {from} speech old may sound = record {
  words = λ n word among. said_later speech old.sent (suc old.sent) (omega arith) n word (sound.words n word among);
  fragments = λ f among. sent_later speech old.sent (suc old.sent) (omega arith) f (sound.fragments f among);
  held = λ i n lt claims. elim (cases_lt i old.sent) [
    | inl before ↦ sound.held i n before claims
    | inr here ↦ may.1 n (now i here lt n claims)
  ];
  founded = λ i n lt claims. elim (cases_lt i old.sent) [
    | inl before ↦ sound.founded i n before claims
    | inr here ↦ at_last i here lt n claims
  ];
}
  where
    now : (i : ℕ) → old.sent ≤ i → i < suc old.sent → (n : ℕ) → delivery.Claims from (fragment_delivery.said_in speech) i n → delivery.Claims from (fragment_delivery.said_in speech) old.sent n
    now i here lt n claims = let same : i ≡ old.sent = omega arith in subst (λ j. delivery.Claims from (fragment_delivery.said_in speech) j n) same claims

    at_last : (i : ℕ) → old.sent ≤ i → i < suc old.sent → (n : ℕ) → delivery.Claims from (fragment_delivery.said_in speech) i n → fragment_verdict.IsWordBefore from speech i n
    at_last i here lt n claims =
        let same : old.sent ≡ i = omega arith in
        subst (λ j. fragment_verdict.IsWordBefore from speech j n) same (word_given speech old sound n (may.1 n (now i here lt n claims)))

take_sound : {from : ℕ} (speech : fragment_delivery.FragmentSpeech) (old : fragment_delivery.FragmentState) (i k n : ℕ) (word : delivery.Word) → i < old.sent → delivery.Gives from (fragment_delivery.said_in speech) i k n word → IsFragmentSound from speech old
    → IsFragmentSound from speech (took_word old n word)
take_sound {from} speech old i k n word lt gives sound = record {
  words = λ m other among. elim (Contains-push_cases old.held (n, word) (m, other) among) [
    | inl before ↦ sound.words m other before
    | inr here ↦ same m other here
  ];
  fragments = sound.fragments;
  held = λ j m below claims.
      word_of_more (fragment_delivery.HoldsWord old) (fragment_delivery.HoldsWord (took_word old n word)) (fragment_delivery.HoldsFragment old) (fragment_delivery.HoldsFragment old) (λ o w h. Contains-append_left old.held _ _ h) (λ f h. h) m (sound.held j m below claims);
  founded = sound.founded;
}
  where
    same : (m : ℕ) (other : delivery.Word) → ◌≡◌ {A = ℕ × delivery.Word} (n, word) (m, other) → fragment_verdict.IsSaidBefore from speech old.sent m other
    same m other e = record { place = i; act = k; earlier = lt; gives = subst (λ (p : ℕ × delivery.Word). delivery.Gives from (fragment_delivery.said_in speech) i k p.0 p.1) e gives }

take_fragment_sound : {from : ℕ} (speech : fragment_delivery.FragmentSpeech) (old : fragment_delivery.FragmentState) (i k : ℕ) (f : fragment_delivery.Fragment) → i < old.sent → fragment_delivery.GivesFragment from speech i k f → IsFragmentSound from speech old
    → IsFragmentSound from speech (took_fragment old f)
take_fragment_sound {from} speech old i k f lt gives sound = record {
  words = sound.words;
  fragments = λ g among. elim (Contains-push_cases old.fragments f g among) [
    | inl before ↦ sound.fragments g before
    | inr here ↦ record { place = i; piece = k; earlier = lt; gives = subst (fragment_delivery.GivesFragment from speech i k) here gives }
  ];
  held = λ j m below claims.
      word_of_more (fragment_delivery.HoldsWord old) (fragment_delivery.HoldsWord old) (fragment_delivery.HoldsFragment old) (fragment_delivery.HoldsFragment (took_fragment old f)) (λ o w h. h) (λ g h. Contains-append_left old.fragments _ _ h) m (sound.held j m below claims);
  founded = sound.founded;
}

step_sound : {from : ℕ} (speech : fragment_delivery.FragmentSpeech) (old : fragment_delivery.FragmentState) (event : fragment_delivery.FragmentEvent) (new : fragment_delivery.FragmentState) → fragment_delivery.FragmentStep from speech old event new → IsFragmentSound from speech old → IsFragmentSound from speech new
step_sound {from} speech old fragment_delivery.FragmentEvent.Send new (may, is) sound = subst (IsFragmentSound from speech) (sym is) (send_sound speech old may sound)
step_sound {from} speech old (fragment_delivery.FragmentEvent.Take i k n word) new (lt, gives, is) sound = subst (IsFragmentSound from speech) (sym is) (take_sound speech old i k n word lt gives sound)
step_sound {from} speech old (fragment_delivery.FragmentEvent.TakeFragment i k f) new (lt, gives, is) sound = subst (IsFragmentSound from speech) (sym is) (take_fragment_sound speech old i k f lt gives sound)

follow_sound : {from : ℕ} (speech : fragment_delivery.FragmentSpeech) (old : fragment_delivery.FragmentState) (events : List fragment_delivery.FragmentEvent) (new : fragment_delivery.FragmentState) → fragment_delivery.FragmentsFollow from speech old events new → IsFragmentSound from speech old
    → IsFragmentSound from speech new
follow_sound {from} speech old [] new is sound = subst (IsFragmentSound from speech) (sym is) sound
follow_sound speech old (event ∷ events) new (mid, step, more) sound = follow_sound speech mid events new more (step_sound speech old event mid step sound)

pub reached_is_sound : {from : ℕ} (speech : fragment_delivery.FragmentSpeech) (state : fragment_delivery.FragmentState) → fragment_delivery.IsFragmentReached from speech state → IsFragmentSound from speech state
reached_is_sound speech state (events, follows) = follow_sound speech fragment_delivery.fragment_start events state follows (start_sound speech)
