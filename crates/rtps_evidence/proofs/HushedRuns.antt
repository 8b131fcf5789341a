-- Runs of a recording without the payloads for a number: they are runs of the recording, and end without a payload for it.
use Rattle.std.proofs.Common.{◌≡◌, ℕ, ◌<◌, ◌==◌, Bool, true, false, List, [], ◌∷◌, length, map, Option, Some, None, slice_get, refl, sym, ◌∙◌, ap, subst, arith}
use Rattle.std.specs.Prelude.{Contains}
use Rattle.std.proofs.lemmas.Bool.Decides.{nat_tests}
use Rattle.std.proofs.lemmas.List.{length-map}
use Rattle.rtps_wire.specs.Values as values
use Rattle.rtps_audit.specs.Delivery as delivery
use Rattle.rtps_audit.specs.PlainVerdict as plain_verdict
use Rattle.rtps_audit.specs.RunVerdict as run_verdict
use Rattle.rtps_audit.proofs.Offered.{get_mapped, held_is_spoken, mapped_get, runs_exist_where_founded}
use Rattle.rtps_evidence.specs.Received as received

-- a word, without a payload where it is for the number
abbrev hushed_word : Bool → Option delivery.Word → Option delivery.Word
hushed_word true (Some (delivery.Word.Told payload)) = None
hushed_word true (Some delivery.Word.Gone) = Some delivery.Word.Gone
hushed_word true None = None
hushed_word false word = word

abbrev hushed_act : ℕ → (ℕ → Option delivery.Word) → (ℕ → Option delivery.Word)
hushed_act n act m = hushed_word (m == n) (act m)

abbrev hushed_datagram : ℕ → delivery.Datagram → delivery.Datagram
hushed_datagram n datagram = record { acts = map (hushed_act n) datagram.acts; bases = datagram.bases; announced = datagram.announced }

-- a recording without the payloads for n
abbrev hushed : ℕ → delivery.Speech → delivery.Speech
hushed n speech = map (hushed_datagram n) speech

word_back : (b : Bool) (found : Option delivery.Word) (word : delivery.Word) → hushed_word b found ≡ Some word → found ≡ Some word
word_back b found word h = grind (arith, nat_tests)

not_told : (found : Option delivery.Word) (payload : values.PayloadValue) → hushed_word true found ≡ Some (delivery.Word.Told payload) → ⊥
not_told (Some (delivery.Word.Told other)) payload e = let no : None ≡ Some (delivery.Word.Told payload) = e in cc
not_told (Some delivery.Word.Gone) payload e = let no : Some delivery.Word.Gone ≡ Some (delivery.Word.Told payload) = e in cc
not_told None payload e = let no : None ≡ Some (delivery.Word.Told payload) = e in cc

-- what is given without the payloads is given
gives_back : {from : ℕ} (n : ℕ) (speech : delivery.Speech) (i k m : ℕ) (word : delivery.Word) → delivery.Gives from (hushed n speech) i k m word → delivery.Gives from speech i k m word
gives_back n speech i k m word gives =
    let datagram = mapped_get (hushed_datagram n) speech i gives.datagram gives.stands in
    let speaks : slice_get (map (hushed_act n) datagram.0.acts) k ≡ Some gives.act = subst (λ (d : delivery.Datagram). slice_get d.acts k ≡ Some gives.act) (sym datagram.2) gives.speaks in
    let act = mapped_get (hushed_act n) datagram.0.acts k gives.act speaks in
    record {
      datagram = datagram.0;
      act = act.0;
      stands = datagram.1;
      speaks = act.1;
      asked = gives.asked;
      says = word_back (m == n) (act.0 m) word (ap (λ (f : ℕ → Option delivery.Word). f m) act.2 ∙ gives.says);
    }

-- a payload for n is not
gives_none : {from : ℕ} (n : ℕ) (speech : delivery.Speech) (i k : ℕ) (payload : values.PayloadValue) → delivery.Gives from (hushed n speech) i k n (delivery.Word.Told payload) → ⊥
gives_none n speech i k payload gives =
    let datagram = mapped_get (hushed_datagram n) speech i gives.datagram gives.stands in
    let speaks : slice_get (map (hushed_act n) datagram.0.acts) k ≡ Some gives.act = subst (λ (d : delivery.Datagram). slice_get d.acts k ≡ Some gives.act) (sym datagram.2) gives.speaks in
    let act = mapped_get (hushed_act n) datagram.0.acts k gives.act speaks in
    let same : (n == n) ≡ true = grind (arith, nat_tests) in
    not_told (act.0 n) payload (ap (λ b. hushed_word b (act.0 n)) (sym same) ∙ ap (λ (f : ℕ → Option delivery.Word). f n) act.2 ∙ gives.says)

-- what is no payload for n is given still
still_given : {from : ℕ} (n : ℕ) (speech : delivery.Speech) (i k m : ℕ) (word : delivery.Word) → ((b : Bool) → (m == n) ≡ b → hushed_word b (Some word) ≡ Some word) → delivery.Gives from speech i k m word → delivery.Gives from (hushed n speech) i k m word
still_given n speech i k m word stays gives = record {
  datagram = hushed_datagram n gives.datagram;
  act = hushed_act n gives.act;
  stands = get_mapped (hushed_datagram n) speech i gives.datagram gives.stands;
  speaks = get_mapped (hushed_act n) gives.datagram.acts k gives.act gives.speaks;
  asked = gives.asked;
  says = ap (hushed_word (m == n)) gives.says ∙ stays (m == n) refl;
}

claims_back : {from : ℕ} (n : ℕ) (speech : delivery.Speech) (j m : ℕ) → delivery.Claims from (hushed n speech) j m → delivery.Claims from speech j m
claims_back n speech j m claims =
    let datagram = mapped_get (hushed_datagram n) speech j claims.datagram claims.stands in
    record {
      datagram = datagram.0;
      base = claims.base;
      stands = datagram.1;
      answers = subst (λ (d : delivery.Datagram). Contains d.bases claims.base) (sym datagram.2) claims.answers;
      asked = claims.asked;
      below = claims.below;
    }

claims_still : {from : ℕ} (n : ℕ) (speech : delivery.Speech) (j m : ℕ) → delivery.Claims from speech j m → delivery.Claims from (hushed n speech) j m
claims_still n speech j m claims = record {
  datagram = hushed_datagram n claims.datagram;
  base = claims.base;
  stands = get_mapped (hushed_datagram n) speech j claims.datagram claims.stands;
  answers = claims.answers;
  asked = claims.asked;
  below = claims.below;
}

-- its runs are runs of the recording

step_back : (from : ℕ) (n : ℕ) (speech : delivery.Speech) (old : delivery.DeliveryState) (event : delivery.Event) (new : delivery.DeliveryState) → delivery.Step from (hushed n speech) old event new → delivery.Step from speech old event new
step_back from n speech old delivery.Event.Send new (may, e) =
    let lt = may.0 in
    let size : length (hushed n speech) ≡ length speech = length-map speech (hushed_datagram n) in
    ((omega arith, λ m claims. may.1 m (claims_still n speech old.sent m claims)), e)
step_back from n speech old (delivery.Event.Take i k m word) new (lt, gives, e) = (lt, gives_back n speech i k m word gives, e)

follows_back : (from : ℕ) (n : ℕ) (speech : delivery.Speech) (old : delivery.DeliveryState) (events : List delivery.Event) (new : delivery.DeliveryState) → delivery.Follows from (hushed n speech) old events new → delivery.Follows from speech old events new
follows_back from n speech old [] new e = e
follows_back from n speech old (event ∷ events) new (mid, step, follows) = (mid, step_back from n speech old event mid step, follows_back from n speech mid events new follows)

ends_back : {from : ℕ} (n : ℕ) (speech : delivery.Speech) (end : delivery.DeliveryState) → delivery.Ends from (hushed n speech) end → delivery.Ends from speech end
ends_back {from} n speech end ((events, follows), all) =
    let size : length (hushed n speech) ≡ length speech = length-map speech (hushed_datagram n) in
    ((events, follows_back from n speech delivery.start events end follows), all ∙ size)

-- some earlier datagram has the word for n that it will not come
pub record IsGoneBefore (from : ℕ) (speech : delivery.Speech) (j n : ℕ) : Type 0 where
  pub place : ℕ
  pub act : ℕ
  pub earlier : place < j
  pub gives : delivery.Gives from speech place act n delivery.Word.Gone

gone_stays : (b : Bool) → hushed_word b (Some delivery.Word.Gone) ≡ Some delivery.Word.Gone
gone_stays b = grind (arith, nat_tests)

founded_still : {from : ℕ} (n : ℕ) (speech : delivery.Speech) → plain_verdict.IsFounded from speech → ((j : ℕ) → delivery.Claims from speech j n → IsGoneBefore from speech j n) → plain_verdict.IsFounded from (hushed n speech)
founded_still {from} n speech founded gone j m claims = by (m == n) refl (claims_back n speech j m claims)
  where
    by : (b : Bool) → (m == n) ≡ b → delivery.Claims from speech j m → run_verdict.IsTold from (hushed n speech) j m
    by true same claims =
        let at : m ≡ n = grind (arith, nat_tests, same) in
        let told = gone j (subst (delivery.Claims from speech j) at claims) in
        record {
          place = told.place;
          act = told.act;
          word = delivery.Word.Gone;
          earlier = told.earlier;
          gives = subst (λ k. delivery.Gives from (hushed n speech) told.place told.act k delivery.Word.Gone) (sym at) (still_given n speech told.place told.act n delivery.Word.Gone (λ b is. gone_stays b) told.gives);
        }
    by false other claims =
        let told = founded j m claims in
        record {
          place = told.place;
          act = told.act;
          word = told.word;
          earlier = told.earlier;
          gives = still_given n speech told.place told.act m told.word (λ b is. ap (λ c. hushed_word c (Some told.word)) (sym is ∙ other)) told.gives;
        }

-- where each claim of n stands behind a datagram that tells it gone, some run ends without a payload for it
pub run_without_payload : {from : ℕ} (n : ℕ) (speech : delivery.Speech) → plain_verdict.IsFounded from speech → ((j : ℕ) → delivery.Claims from speech j n → IsGoneBefore from speech j n) → (end : delivery.DeliveryState) × delivery.Ends from speech end × (received.HoldsPayload end n → ⊥)
run_without_payload {from} n speech founded gone = at ((runs_exist_where_founded from (hushed n speech)).1 (founded_still n speech founded gone))
  where
    at : delivery.HasRun from (hushed n speech) → (end : delivery.DeliveryState) × delivery.Ends from speech end × (received.HoldsPayload end n → ⊥)
    at (end, ends) = (
      end,
      ends_back n speech end ends,
      λ (payload, held).
          let spoken = held_is_spoken from (hushed n speech) end n (delivery.Word.Told payload) ends held in
          gives_none n speech spoken.place spoken.act payload spoken.gives,
    )
