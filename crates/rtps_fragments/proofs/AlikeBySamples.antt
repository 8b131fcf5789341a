-- Where a recording without fragments tells just the samples that are put together of one with them, they tell alike.
use Rattle.std.proofs.Common.{◌≡◌, ℕ, ◌<◌, List, length, sym, subst, arith, inl, inr, ◌⊎◌}
use Rattle.std.specs.Prelude.{Contains, ◌↔◌}
use Rattle.std.specs.List.{concat, filter_map}
use Rattle.std.proofs.lemmas.Option.{slice_get_cases, slice_get_within}
use Rattle.rtps_wire.specs.Values as values
use Rattle.rtps_audit.specs.Delivery as delivery
use Rattle.rtps_audit.specs.PlainVerdict as plain_verdict
use Rattle.rtps_audit.specs.RunVerdict as run_verdict
use Rattle.rtps_audit.proofs.Offered.{mapped_contains}
use Rattle.rtps_wire.specs.DataFrag as data_frag
use Rattle.rtps_fragments.specs.FragmentDelivery as fragment_delivery
use Rattle.rtps_fragments.specs.FragmentVerdict as fragment_verdict
use Rattle.rtps_fragments.specs.Laws as laws
use Rattle.rtps_fragments.specs.Samples as samples
use Rattle.rtps_fragments.proofs.SampleLemmas.{AreWithin, two}
use Rattle.rtps_fragments.proofs.PutTogether.{EachOf, IsWithin, came_within, parts_picked, put_of, payloads_differ, some_put}
use Rattle.rtps_fragments.proofs.ToldLemmas.{IsPut}
use Rattle.rtps_fragments.proofs.FragmentsBefore.{all_sent, fragments_before, sent_is_before}

-- an act of a datagram before place j has the word for n
abbrev pub IsGivenBefore : ℕ → delivery.Speech → ℕ → ℕ → delivery.Word → Type 0
IsGivenBefore from told j n word = (i : ℕ) × (k : ℕ) × (i < j) × delivery.Gives from told i k n word

-- the word is said, or is a payload that can be put together
abbrev pub IsHadBefore : ℕ → fragment_delivery.FragmentSpeech → ℕ → ℕ → delivery.Word → Type 0
IsHadBefore from speech j n word = fragment_verdict.IsSaidBefore from speech j n word ⊎ ((payload : values.PayloadValue) × (word ≡ delivery.Word.Told payload) × fragment_delivery.IsPutTogether (fragment_verdict.IsSentBefore from speech j) n payload)

-- As many datagrams, the same claims and the same last announced number. What is said is told, and each payload that is put together
-- of all fragments before a place. What is told is said or can be put together.
pub record TellsSamples (from : ℕ) (speech : fragment_delivery.FragmentSpeech) (told : delivery.Speech) : Type 0 where
  pub counted : length told ≡ length speech
  pub claims : (j n : ℕ) → delivery.Claims from (fragment_delivery.said_in speech) j n ↔ delivery.Claims from told j n
  pub announced : delivery.last_announced_from from (fragment_delivery.said_in speech) ≡ delivery.last_announced_from from told
  pub said : (j n : ℕ) (word : delivery.Word) → fragment_verdict.IsSaidBefore from speech j n word → IsGivenBefore from told j n word
  pub put : (j n : ℕ) (payload : values.PayloadValue) → delivery.IsAsked from n → IsPut n (fragments_before speech j) payload → IsGivenBefore from told j n (delivery.Word.Told payload)
  pub given : (j n : ℕ) (word : delivery.Word) → IsGivenBefore from told j n word → IsHadBefore from speech j n word

module _ (from : ℕ) (speech : fragment_delivery.FragmentSpeech) (within : laws.HasFragmentsWithin from speech) where
  -- fragments that are sent, where their number is asked for
  abbrev pub AreSent : ℕ → List fragment_delivery.Fragment → Type 0
  AreSent j fragments = (f : fragment_delivery.Fragment) → Contains fragments f → delivery.IsAsked from f.number → fragment_verdict.IsSentBefore from speech j f

  each_sent : (j n : ℕ) → delivery.IsAsked from n → (fragments : List fragment_delivery.Fragment) → AreSent j fragments → EachOf n fragments (fragment_verdict.IsSentBefore from speech j)
  each_sent j n asked fragments sent f among same = sent f among (subst (delivery.IsAsked from) (sym same) asked)

  each_within : (j n : ℕ) → delivery.IsAsked from n → (fragments : List fragment_delivery.Fragment) → AreSent j fragments → EachOf n fragments IsWithin
  each_within j n asked fragments sent f among same = let there = each_sent j n asked fragments sent f among same in within there.place there.piece f there.gives

  pub put_together : (j n : ℕ) → delivery.IsAsked from n → (fragments : List fragment_delivery.Fragment) → AreSent j fragments → (payload : values.PayloadValue) → IsPut n fragments payload → fragment_delivery.IsPutTogether (fragment_verdict.IsSentBefore from speech j) n payload
  put_together j n asked fragments sent = put_of (fragment_verdict.IsSentBefore from speech j) n fragments (each_sent j n asked fragments sent) (each_within j n asked fragments sent)

module _ (from : ℕ) (speech : fragment_delivery.FragmentSpeech) (within : laws.HasFragmentsWithin from speech) (told : delivery.Speech) (tells : TellsSamples from speech told) where
  -- ---- the parts of what is put together

  part_asked : (j n : ℕ) (payload : values.PayloadValue) → fragment_delivery.IsPutTogether (fragment_verdict.IsSentBefore from speech j) n payload → delivery.IsAsked from n
  part_asked j n payload put = elim (slice_get_cases put.parts 0).1 [
    | inl found ↦ (put.each 0 found.0 found.2).gives.asked
    | inr past ↦ absurd (let some = put.some in let le = past.0 in omega arith)
  ]

  -- it is put together of all fragments before
  of_all : (j n : ℕ) (payload : values.PayloadValue) → fragment_delivery.IsPutTogether (fragment_verdict.IsSentBefore from speech j) n payload → fragment_delivery.IsPutTogether (Contains (fragments_before speech j)) n payload
  of_all j n payload put =
      record { shape = put.shape; parts = put.parts; some = put.some; all = put.all; each = λ i octets at. sent_is_before speech j _ (put.each i octets at); payload_is = put.payload_is }

  -- a payload of the sample is told
  some_told : (j n : ℕ) (payload : values.PayloadValue) → fragment_delivery.IsPutTogether (fragment_verdict.IsSentBefore from speech j) n payload → (other : values.PayloadValue) × IsGivenBefore from told j n (delivery.Word.Told other)
  some_told j n payload put =
      let (other, is) = some_put n (fragments_before speech j) payload (of_all j n payload put) in
      (other, tells.put j n other (part_asked j n payload put) is)

  word_to : (j n : ℕ) → fragment_verdict.IsWordBefore from speech j n → run_verdict.IsTold from told j n
  word_to j n (inl gone) = let (i, k, lt, gives) = tells.said j n delivery.Word.Gone gone in record { place = i; act = k; word = delivery.Word.Gone; earlier = lt; gives = gives }
  word_to j n (inr (payload, inl said)) =
      let (i, k, lt, gives) = tells.said j n (delivery.Word.Told payload) said in
      record { place = i; act = k; word = delivery.Word.Told payload; earlier = lt; gives = gives }
  word_to j n (inr (payload, inr put)) =
      let (other, given) = some_told j n payload put in
      record { place = given.0; act = given.1; word = delivery.Word.Told other; earlier = given.2; gives = given.3 }

  word_from : (j n : ℕ) → run_verdict.IsTold from told j n → fragment_verdict.IsWordBefore from speech j n
  word_from j n was = by was.word (tells.given j n was.word (was.place, was.act, was.earlier, was.gives))
    where
      by : (word : delivery.Word) → fragment_verdict.IsSaidBefore from speech j n word ⊎ ((payload : values.PayloadValue) × (word ≡ delivery.Word.Told payload) × fragment_delivery.IsPutTogether (fragment_verdict.IsSentBefore from speech j) n payload) → fragment_verdict.IsWordBefore from speech j n
      by delivery.Word.Gone (inl said) = inl said
      by (delivery.Word.Told payload) (inl said) = inr (payload, inl said)
      by word (inr (payload, is, put)) = inr (payload, inr put)

  -- ---- two payloads

  payload_from : (n : ℕ) (payload : values.PayloadValue) → plain_verdict.IsSpoken from told n (delivery.Word.Told payload) → fragment_verdict.IsPayloadBefore from speech (length speech) n payload
  payload_from n payload spoken =
      let inside = slice_get_within told spoken.place spoken.gives.datagram spoken.gives.stands in
      let count = tells.counted in
      elim (tells.given (length speech) n (delivery.Word.Told payload) (spoken.place, spoken.act, omega arith, spoken.gives)) [
        | inl said ↦ inl said
        | inr (other, is, put) ↦
            let same : other ≡ payload = (let h = is in cc) in
            inr (subst (λ p. fragment_delivery.IsPutTogether (fragment_verdict.IsSentBefore from speech (length speech)) n p) same put)
      ]

  spoken_from : (j n : ℕ) (word : delivery.Word) → IsGivenBefore from told j n word → plain_verdict.IsSpoken from told n word
  spoken_from j n word (i, k, lt, gives) = record { place = i; act = k; gives = gives }

  -- whatever payload is put together is told, or two are told that differ
  spoken_or_two : (n : ℕ) (payload : values.PayloadValue) → fragment_verdict.IsPayloadBefore from speech (length speech) n payload → plain_verdict.IsSpoken from told n (delivery.Word.Told payload) ⊎ plain_verdict.SpeaksTwo from told n
  unfolding of_all
  spoken_or_two n payload (inl said) = inl (spoken_from (length speech) n (delivery.Word.Told payload) (tells.said (length speech) n (delivery.Word.Told payload) said))
  spoken_or_two n payload (inr put) =
      let count = length speech in
      let came = filter_map (samples.came_of n put.shape) (fragments_before speech count) in
      let bounds = came_within n put.shape (fragments_before speech count) (each_within from speech within count n (part_asked count n payload put) (fragments_before speech count) (all_sent speech count)) in
      elim (two came put.parts put.some (parts_picked n (fragments_before speech count) payload (of_all count n payload put)) (subst (λ last. AreWithin last came) (sym put.all) bounds)) [
        | inl is ↦ inl (subst (λ p. plain_verdict.IsSpoken from told n (delivery.Word.Told p)) (sym put.payload_is) (speaks (concat put.parts) is))
        | inr (x, y, one, other, differ) ↦ inr (fragment_delivery.payload_by put.shape x, fragment_delivery.payload_by put.shape y, speaks x one, speaks y other, payloads_differ put.shape x y differ)
      ]
    where
      speaks : (octets : List ℕ) → Contains (samples.samples_of (length put.parts) (filter_map (samples.came_of n put.shape) (fragments_before speech (length speech)))) octets
          → plain_verdict.IsSpoken from told n (delivery.Word.Told (fragment_delivery.payload_by put.shape octets))
      speaks octets among =
          let count = length speech in
          let came = filter_map (samples.came_of n put.shape) (fragments_before speech count) in
          let placed : Contains (samples.samples_of (data_frag.last_fragment put.shape) came) octets = subst (λ last. Contains (samples.samples_of last came) octets) put.all among in
          let payloads = mapped_contains (fragment_delivery.payload_by put.shape) (samples.samples_of (data_frag.last_fragment put.shape) came) octets placed in
          spoken_from count n (delivery.Word.Told (fragment_delivery.payload_by put.shape octets)) (tells.put count n (fragment_delivery.payload_by put.shape octets) (part_asked count n payload put) (put.shape, payloads))

  two_to : (n : ℕ) → laws.GivesTwoPayloads from speech n → plain_verdict.SpeaksTwo from told n
  two_to n (x, y, one, other, differ) = elim (spoken_or_two n x one) [
    | inl first ↦ elim (spoken_or_two n y other) [
      | inl second ↦ (x, y, first, second, differ)
      | inr both ↦ both
    ]
    | inr both ↦ both
  ]

  two_from : (n : ℕ) → plain_verdict.SpeaksTwo from told n → laws.GivesTwoPayloads from speech n
  two_from n (x, y, one, other, differ) = (x, y, payload_from n x one, payload_from n y other, differ)

  pub samples_alike : laws.TellsAlike from speech told
  samples_alike = record {
    counted = tells.counted;
    claims = tells.claims;
    announced = tells.announced;
    words = λ j n. (word_to j n, word_from j n);
    payloads = λ n. (two_to n, two_from n);
  }
