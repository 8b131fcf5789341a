-- A recording with fragments and the one into which its samples are told tell alike.
use Rattle.std.proofs.Common.{◌≡◌, ℕ, zero, suc, ◌<◌, max, List, [], ◌∷◌, ◌++◌, length, map, Some, slice_get, refl, sym, ◌∙◌, ap, subst, arith, inl, inr, ◌⊎◌, append_assoc, append-nil}
use Rattle.std.specs.Prelude.{Contains}
use Rattle.std.specs.List.{flat_map}
use Rattle.std.proofs.lemmas.List.Elements.{Contains-append_right, Contains-append_cases}
use Rattle.rtps_wire.specs.Values as values
use Rattle.rtps_audit.specs.Delivery as delivery
use Rattle.rtps_audit.proofs.Offered.{contains_none, get_mapped, mapped_get}
use Rattle.rtps_wire.specs.DataFrag as data_frag
use Rattle.rtps_fragments.specs.FragmentDelivery as fragment_delivery
use Rattle.rtps_fragments.specs.FragmentVerdict as fragment_verdict
use Rattle.rtps_fragments.specs.Laws as laws
use Rattle.rtps_fragments.specs.Samples as samples
use Rattle.rtps_fragments.proofs.FragmentRuns.{sent_later}
use Rattle.rtps_fragments.proofs.SampleLemmas.{none_yet}
use Rattle.rtps_fragments.proofs.ToldLemmas.{IsPut, Tells, acts_are_put, put_or_acts}
use Rattle.rtps_fragments.proofs.FragmentsBefore.{all_sent, fragments_before, get_cases, get_left, place_of, sent_by}
use Rattle.rtps_fragments.proofs.AlikeBySamples.{IsGivenBefore, IsHadBefore, put_together, samples_alike}

-- ---- the datagrams into which samples are told

told_at : (before : List fragment_delivery.Fragment) (speech : fragment_delivery.FragmentSpeech) (i : ℕ) (datagram : fragment_delivery.FragmentDatagram) → slice_get speech i ≡ Some datagram
    → slice_get (samples.speech_told before speech) i ≡ Some (samples.datagram_told (before ++ fragments_before speech i) datagram)
told_at before [] i datagram at = cc
told_at before (d ∷ speech) zero datagram at =
    let same : d ≡ datagram = (let h = at in cc) in
    ap (λ x. Some (samples.datagram_told before x)) same ∙ ap (λ fs. Some (samples.datagram_told fs datagram)) (sym (append-nil before))
told_at before (d ∷ speech) (suc i) datagram at =
    told_at (before ++ flat_map fragment_delivery.fragments_of d.pieces) speech i datagram at
    ∙ ap (λ fs. Some (samples.datagram_told fs datagram)) (append_assoc before (flat_map fragment_delivery.fragments_of d.pieces) (fragments_before speech i))

told_from : (before : List fragment_delivery.Fragment) (speech : fragment_delivery.FragmentSpeech) (i : ℕ) (told : delivery.Datagram) → slice_get (samples.speech_told before speech) i ≡ Some told
    → (datagram : fragment_delivery.FragmentDatagram) × (slice_get speech i ≡ Some datagram) × (samples.datagram_told (before ++ fragments_before speech i) datagram ≡ told)
told_from before [] i told at = cc
told_from before (d ∷ speech) zero told at =
    let same : samples.datagram_told before d ≡ told = (let h = at in cc) in
    (d, refl, ap (λ fs. samples.datagram_told fs d) (append-nil before) ∙ same)
told_from before (d ∷ speech) (suc i) told at =
    let (datagram, stands, is) = told_from (before ++ flat_map fragment_delivery.fragments_of d.pieces) speech i told at in
    (datagram, stands, ap (λ fs. samples.datagram_told fs datagram) (sym (append_assoc before (flat_map fragment_delivery.fragments_of d.pieces) (fragments_before speech i))) ∙ is)

told_length : (before : List fragment_delivery.Fragment) (speech : fragment_delivery.FragmentSpeech) → length (samples.speech_told before speech) ≡ length speech
told_length before [] = refl
told_length before (d ∷ speech) = ap suc (told_length (before ++ flat_map fragment_delivery.fragments_of d.pieces) speech)

told_last : (from : ℕ) (before : List fragment_delivery.Fragment) (speech : fragment_delivery.FragmentSpeech) → delivery.last_announced_from from (fragment_delivery.said_in speech) ≡ delivery.last_announced_from from (samples.speech_told before speech)
told_last from before [] = refl
told_last from before (d ∷ speech) = ap (max (delivery.greatest d.said.announced)) (told_last from (before ++ flat_map fragment_delivery.fragments_of d.pieces) speech)

-- what can be put together before a place is told by a datagram before it
abbrev IsToldAt : ℕ → List fragment_delivery.Fragment → fragment_delivery.FragmentSpeech → ℕ → values.PayloadValue → Type 0
IsToldAt n before speech j payload =
    (i : ℕ) × (datagram : fragment_delivery.FragmentDatagram) × (i < j) × (slice_get speech i ≡ Some datagram) × Tells (samples.acts_told (before ++ fragments_before speech i) datagram.pieces) n payload

put_or_at : (n : ℕ) (before : List fragment_delivery.Fragment) (speech : fragment_delivery.FragmentSpeech) (j : ℕ) (payload : values.PayloadValue) → IsPut n (before ++ fragments_before speech j) payload → IsPut n before payload ⊎ IsToldAt n before speech j payload
put_or_at n before [] j payload put = inl (subst (λ fs. IsPut n fs payload) (append-nil before) put)
put_or_at n before (d ∷ speech) zero payload put = inl (subst (λ fs. IsPut n fs payload) (append-nil before) put)
put_or_at n before (d ∷ speech) (suc j) payload put =
    let here = flat_map fragment_delivery.fragments_of d.pieces in
    elim (put_or_at n (before ++ here) speech j payload (subst (λ fs. IsPut n fs payload) (sym (append_assoc before here (fragments_before speech j))) put)) [
      | inl earlier ↦ elim (put_or_acts n before d.pieces payload earlier) [
        | inl old ↦ inl old
        | inr tells ↦ inr (0, d, omega arith, refl, subst (λ fs. Tells (samples.acts_told fs d.pieces) n payload) (sym (append-nil before)) tells)
      ]
      | inr (i, datagram, lt, at, tells) ↦
          inr (suc i, datagram, omega arith, at, subst (λ fs. Tells (samples.acts_told fs datagram.pieces) n payload) (append_assoc before here (fragments_before speech i)) tells)
    ]

pub none_put : (n : ℕ) (payload : values.PayloadValue) → IsPut n [] payload → ⊥
none_put n payload (shape, among) = contains_none payload (subst (λ xs. Contains (map (fragment_delivery.payload_by shape) xs) payload) (none_yet (data_frag.last_fragment shape)) among)

-- ---- what is told, and what can be put together

said_is_given : {from : ℕ} (speech : fragment_delivery.FragmentSpeech) (j n : ℕ) (word : delivery.Word) → fragment_verdict.IsSaidBefore from speech j n word → IsGivenBefore from (samples.told_in speech) j n word
said_is_given speech j n word said =
    let gives = said.gives in
    let (datagram, at, is) = mapped_get (λ (d : fragment_delivery.FragmentDatagram). d.said) speech said.place gives.datagram gives.stands in
    let fragments = fragments_before speech said.place in (
      said.place,
      said.act,
      said.earlier,
      record {
        datagram = samples.datagram_told fragments datagram;
        act = gives.act;
        stands = told_at [] speech said.place datagram at;
        speaks = get_left datagram.said.acts (samples.acts_told fragments datagram.pieces) said.act gives.act (subst (λ (d : delivery.Datagram). slice_get d.acts said.act ≡ Some gives.act) (sym is) gives.speaks);
        asked = gives.asked;
        says = gives.says;
      },
    )

put_is_given : {from : ℕ} (speech : fragment_delivery.FragmentSpeech) (j n : ℕ) (payload : values.PayloadValue) → delivery.IsAsked from n → IsPut n (fragments_before speech j) payload → IsGivenBefore from (samples.told_in speech) j n (delivery.Word.Told payload)
put_is_given {from} speech j n payload asked put = elim (put_or_at n [] speech j payload put) [
  | inl none ↦ absurd (none_put n payload none)
  | inr at ↦ given at
]
  where
    given : IsToldAt n [] speech j payload → IsGivenBefore from (samples.told_in speech) j n (delivery.Word.Told payload)
    given (i, datagram, lt, at, (act, among, says)) =
        let fragments = fragments_before speech i in
        let (k, speaks) = place_of (datagram.said.acts ++ samples.acts_told fragments datagram.pieces) act (Contains-append_right datagram.said.acts (samples.acts_told fragments datagram.pieces) act among) in
        (i, k, lt, record { datagram = samples.datagram_told fragments datagram; act = act; stands = told_at [] speech i datagram at; speaks = speaks; asked = asked; says = says })

module _ (from : ℕ) (speech : fragment_delivery.FragmentSpeech) (within : laws.HasFragmentsWithin from speech) where
  -- a word of the recording into which samples are told is said, or is a payload that can be put together
  given_is_had : (j n : ℕ) (word : delivery.Word) → IsGivenBefore from (samples.told_in speech) j n word
      → IsHadBefore from speech j n word
  given_is_had j n word (i, k, lt, gives) = by (told_from [] speech i gives.datagram gives.stands)
    where
      by : (datagram : fragment_delivery.FragmentDatagram) × (slice_get speech i ≡ Some datagram) × (samples.datagram_told (fragments_before speech i) datagram ≡ gives.datagram)
          → IsHadBefore from speech j n word
      by (datagram, at, is) =
          let fragments = fragments_before speech i in
          let here = flat_map fragment_delivery.fragments_of datagram.pieces in
          let speaks = subst (λ (d : delivery.Datagram). slice_get d.acts k ≡ Some gives.act) (sym is) gives.speaks in
          let sent : (f : fragment_delivery.Fragment) → Contains (fragments ++ here) f → delivery.IsAsked from f.number → fragment_verdict.IsSentBefore from speech j f = λ f among asked. elim (Contains-append_cases fragments here f among) [
            | inl earlier ↦ sent_later speech i j (omega arith) f (all_sent speech i f earlier asked)
            | inr now ↦ sent_by speech i j datagram f lt at now asked
          ] in
          elim (get_cases datagram.said.acts (samples.acts_told fragments datagram.pieces) k gives.act speaks) [
            | inl said ↦ inl (record {
              place = i;
              act = k;
              earlier = lt;
              gives = record { datagram = datagram.said; act = gives.act; stands = get_mapped (λ (d : fragment_delivery.FragmentDatagram). d.said) speech i datagram at; speaks = said; asked = gives.asked; says = gives.says };
            })
            | inr told ↦
                let (payload, tells, put) = acts_are_put n fragments datagram.pieces gives.act word told gives.says in
                inr (payload, tells, put_together from speech within j n gives.asked (fragments ++ here) sent payload put)
          ]

  -- ---- claims

  claims_to : (j n : ℕ) → delivery.Claims from (fragment_delivery.said_in speech) j n → delivery.Claims from (samples.told_in speech) j n
  claims_to j n claims =
      let (datagram, at, is) = mapped_get (λ (d : fragment_delivery.FragmentDatagram). d.said) speech j claims.datagram claims.stands in
      record {
        datagram = samples.datagram_told (fragments_before speech j) datagram;
        base = claims.base;
        stands = told_at [] speech j datagram at;
        answers = subst (λ (d : delivery.Datagram). Contains d.bases claims.base) (sym is) claims.answers;
        asked = claims.asked;
        below = claims.below;
      }

  claims_from : (j n : ℕ) → delivery.Claims from (samples.told_in speech) j n → delivery.Claims from (fragment_delivery.said_in speech) j n
  claims_from j n claims =
      let (datagram, at, is) = told_from [] speech j claims.datagram claims.stands in
      record {
        datagram = datagram.said;
        base = claims.base;
        stands = get_mapped (λ (d : fragment_delivery.FragmentDatagram). d.said) speech j datagram at;
        answers = subst (λ (d : delivery.Datagram). Contains d.bases claims.base) (sym is) claims.answers;
        asked = claims.asked;
        below = claims.below;
      }

pub samples_tell_alike : laws.SamplesTellAlike
samples_tell_alike from speech within =
    samples_alike from speech within (samples.told_in speech) (record {
      counted = told_length [] speech;
      claims = λ j n. (claims_to from speech within j n, claims_from from speech within j n);
      announced = told_last from [] speech;
      said = said_is_given speech;
      put = put_is_given speech;
      given = given_is_had from speech within;
    })
