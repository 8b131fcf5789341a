-- Where a recording with fragments and one without tell alike, they have the same verdicts by runs.
use Rattle.std.proofs.lemmas.Grind.{common_steps}
use Rattle.std.proofs.lemmas.Bool.Decides.{nat_tests}
use Rattle.std.proofs.Common.{ℕ, ◌<◌, ◌≤◌, length, sym, ◌∙◌, ap, subst, arith, inl, inr, ℤ, pos}
use Rattle.std.proofs.lemmas.Bool.{cases_lt}
use Rattle.std.proofs.lemmas.Option.{slice_get_cases, slice_get_within}
use Rattle.rtps_wire.specs.Values as values
use Rattle.rtps_audit.specs.Delivery as delivery
use Rattle.rtps_audit.specs.RunVerdict as run_verdict
use Rattle.rtps_audit.specs.PlainVerdict as plain_verdict
use Rattle.rtps_audit.specs.Laws as audit_laws
use Rattle.rtps_audit.specs.declared.verdict.Verdict.{Verdict}
use Rattle.rtps_audit.proofs.Offered.{held_is_spoken, unclaimed_is_missed}
use Rattle.rtps_fragments.specs.FragmentDelivery as fragment_delivery
use Rattle.rtps_fragments.specs.FragmentVerdict as fragment_verdict
use Rattle.rtps_fragments.specs.Laws as laws
use Rattle.rtps_fragments.proofs.FragmentRuns.{take_payload, payload_stays, end_more}
use Rattle.rtps_fragments.proofs.FragmentSound.{payload_given, reached_is_sound}
use Rattle.rtps_fragments.proofs.FragmentSimulation.{IsLike, reached_like}

-- two sets of the same numbers have the same least one
same_least : (z : ℤ) (P Q : ℕ → Type 0) → ((n : ℕ) → P n → Q n) → ((n : ℕ) → Q n → P n) → run_verdict.OnNatural z (run_verdict.IsLeast P) → run_verdict.OnNatural z (run_verdict.IsLeast Q)
same_least z P Q h h2 h3 = grind (arith, nat_tests, common_steps)

-- some number has what the least one has
some_number : (z : ℤ) (P : ℕ → Type 0) → run_verdict.OnNatural z (run_verdict.IsLeast P) → (n : ℕ) × P n
some_number z P h = grind (arith, nat_tests, common_steps)

-- what the reader has by runs with fragments, it holds without
holds_from : (s : delivery.DeliveryState) (t : fragment_delivery.FragmentState) → IsLike s t → (n : ℕ) → fragment_delivery.HasWord t n → delivery.Holds s n
holds_from s t like n (inl gone) = like.words n _ gone
holds_from s t like n (inr (payload, inl told)) = like.words n _ told
holds_from s t like n (inr (payload, inr put)) = elim (slice_get_cases put.parts 0).1 [
  | inl found ↦ like.fragments _ (put.each 0 found.0 found.2)
  | inr past ↦ absurd (let some = put.some in omega arith)
]

-- what is claimed and has no word before cannot be sent
unsendable : {from : ℕ} (pieces : fragment_delivery.FragmentSpeech) (j n : ℕ) → j < length pieces → fragment_verdict.ClaimsWithoutWord from pieces j n → fragment_verdict.IsFragmentUnsendable from pieces j
unsendable pieces j n within (claims, none) = (
  within,
  λ state reached. elim (cases_lt j state.sent) [
    | inl sent ↦ absurd (none ((reached_is_sound pieces state reached).founded j n sent claims))
    | inr not ↦ not
  ],
)

module _ (from : ℕ) (pieces : fragment_delivery.FragmentSpeech) (told : delivery.Speech) (alike : laws.TellsAlike from pieces told) where
  -- a claim is of a datagram that there is
  claims_within : (j n : ℕ) → delivery.Claims from told j n → j < length pieces
  claims_within j n claims = grind (arith, nat_tests, common_steps, slice_get_within)

  founded_told : fragment_delivery.HasFragmentRun from pieces → plain_verdict.IsFounded from told
  founded_told (end, (reached, all)) j n claims =
      let within = claims_within j n claims in
      (alike.words j n).0 ((reached_is_sound pieces end reached).founded j n (omega arith) ((alike.claims j n).1 claims))

  -- each end without fragments is like one with them
  end_like : (end : delivery.DeliveryState) → delivery.Ends from told end → (t : fragment_delivery.FragmentState) × fragment_delivery.FragmentsEnd from pieces t × IsLike end t
  end_like end (reached, all) =
      let found = reached_like from pieces told alike end reached in
      (found.0, (found.1, found.2.sent ∙ all ∙ alike.counted), found.2)

  fragment_run : delivery.HasRun from told → fragment_delivery.HasFragmentRun from pieces
  fragment_run (end, ends) = let found = end_like end ends in (found.0, found.1)

  has_claimed : (end : fragment_delivery.FragmentState) → fragment_delivery.FragmentsEnd from pieces end → (j n : ℕ) → delivery.Claims from told j n → fragment_delivery.HasWord end n
  has_claimed end (reached, all) j n claims =
      let within = claims_within j n claims in
      (reached_is_sound pieces end reached).held j n (omega arith) ((alike.claims j n).1 claims)

  -- ---- two payloads

  payload_told : (end : fragment_delivery.FragmentState) → fragment_delivery.FragmentsEnd from pieces end → (n : ℕ) (payload : values.PayloadValue) → fragment_delivery.HasPayload end n payload → fragment_verdict.IsPayloadBefore from pieces (length pieces) n payload
  payload_told end h n payload h2 = grind (arith, nat_tests, common_steps, payload_given, reached_is_sound)

  two_told : (n : ℕ) → fragment_verdict.EndsWithTwoPayloads from pieces n → plain_verdict.SpeaksTwo from told n
  two_told n (end, x, y, ends, one, two, differ) = (alike.payloads n).0 (x, y, payload_told end ends n x one, payload_told end ends n y two, differ)

  two_taken : fragment_delivery.HasFragmentRun from pieces → (n : ℕ) → plain_verdict.SpeaksTwo from told n → fragment_verdict.EndsWithTwoPayloads from pieces n
  two_taken (end, ends) n two =
      let (x, y, one, other, differ) = (alike.payloads n).1 two in
      let (es, t, follows, more, has) = take_payload pieces end n x (subst (λ j. fragment_verdict.IsPayloadBefore from pieces j n x) (sym ends.1) one) in
      let first = end_more from pieces n end t es ends follows more in
      let (fs, u, goes, grown, also) = take_payload pieces t n y (subst (λ j. fragment_verdict.IsPayloadBefore from pieces j n y) (sym first.1) other) in
      (u, x, y, end_more from pieces n t u fs first goes grown, payload_stays n t u grown n x has, also, differ)

  -- ---- no word

  unclaimed_told : (n : ℕ) → fragment_verdict.EndsWithoutWord from pieces n → plain_verdict.IsUnclaimed from told n
  unclaimed_told n (asked, le, (end, ends, none)) = (asked, subst (λ last. n ≤ last) alike.announced le, λ claimed. none (has_claimed end ends claimed.0 n claimed.1))

  ends_without : delivery.HasRun from told → (n : ℕ) → plain_verdict.IsUnclaimed from told n → fragment_verdict.EndsWithoutWord from pieces n
  ends_without run n unclaimed =
      let (asked, le, (end, ends, none)) = unclaimed_is_missed from told n run unclaimed in
      let (t, also, like) = end_like end ends in
      (asked, subst (λ last. n ≤ last) (sym alike.announced) le, (t, also, λ has. none (holds_from end t like n has)))

  -- ---- claims without a word

  untold : (j n : ℕ) → fragment_verdict.ClaimsWithoutWord from pieces j n → run_verdict.ClaimsUntold from told j n
  untold j n (claims, none) = ((alike.claims j n).0 claims, λ tells. none ((alike.words j n).1 tells))

  without_word : (j n : ℕ) → run_verdict.ClaimsUntold from told j n → fragment_verdict.ClaimsWithoutWord from pieces j n
  without_word j n (claims, none) = ((alike.claims j n).1 claims, λ before. none ((alike.words j n).0 before))

  not_sent : (j n : ℕ) → run_verdict.ClaimsUntold from told j n → fragment_verdict.IsFragmentUnsendable from pieces j
  not_sent j n untold = unsendable pieces j n (claims_within j n untold.0) (without_word j n untold)

  never_sent : (j : ℕ) → fragment_verdict.IsFragmentUnsendable from pieces j → run_verdict.IsUnsendable from told j
  never_sent j (within, none) = (let counted = alike.counted in omega arith, λ state reached. at_most state (reached_like from pieces told alike state reached))
    where
      at_most : (state : delivery.DeliveryState) → (t : fragment_delivery.FragmentState) × fragment_delivery.IsFragmentReached from pieces t × IsLike state t → state.sent ≤ j
      at_most state (t, reached, like) = let le = none t reached in let same = like.sent in omega arith

  -- ---- the verdicts

  module _ (agree : audit_laws.VerdictsAgree) (exist : audit_laws.RunsExistWhereFounded) where
    told_run : fragment_delivery.HasFragmentRun from pieces → delivery.HasRun from told
    told_run run = (exist from told).1 (founded_told run)

    to_told : (verdict : Verdict) → fragment_verdict.IsFragmentVerdictFrom from pieces verdict → run_verdict.IsVerdictFrom from told verdict
    to_told (Verdict.Unfounded datagram number) (no_run, (j, place, first, least)) =
        let moved = same_least number _ _ (untold j) (without_word j) least in
        let plain : plain_verdict.IsPlainVerdictFrom from told (Verdict.Unfounded datagram number) =
        (j, place, record { holds = some_number number (run_verdict.ClaimsUntold from told j) moved; least = λ m h. first.least m (not_sent m h.0 h.1) }, moved) in
        (agree from told (Verdict.Unfounded datagram number)).1 plain
    to_told (Verdict.Conflict number) (run, least) = (agree from told (Verdict.Conflict number)).1 (founded_told run, same_least number _ _ two_told (two_taken run) least)
    to_told (Verdict.Open number) (run, none, least) =
        (agree from told (Verdict.Open number)).1 (founded_told run, λ n two. none n (two_taken run n two), same_least number _ _ unclaimed_told (ends_without (told_run run)) least)
    to_told (Verdict.Complete last) (same, run, none, all) = (
      same ∙ ap pos alike.announced,
      told_run run,
      λ n two. none n (two_taken run n (spoken n two)),
      λ end ends n asked le.
          let (t, also, like) = end_like end ends in
          holds_from end t like n (all t also n asked (subst (λ last. n ≤ last) (sym alike.announced) le)),
    )
      where
        spoken : (n : ℕ) → run_verdict.EndsInConflict from told n → plain_verdict.SpeaksTwo from told n
        spoken n (end, x, y, ends, one, two, differ) = (x, y, held_is_spoken from told end n (delivery.Word.Told x) ends one, held_is_spoken from told end n (delivery.Word.Told y) ends two, differ)

    from_told : (verdict : Verdict) → run_verdict.IsVerdictFrom from told verdict → fragment_verdict.IsFragmentVerdictFrom from pieces verdict
    from_told (Verdict.Unfounded datagram number) (no_run, (j, place, first, least)) =
        let claim = some_number number (run_verdict.ClaimsUntold from told j) least in (
          λ run. no_run (told_run run),
          (j, place, record { holds = not_sent j claim.0 claim.1; least = λ m h. first.least m (never_sent m h) }, same_least number _ _ (without_word j) (untold j) least),
        )
    from_told (Verdict.Conflict number) verdict =
        let (founded, least) = (agree from told (Verdict.Conflict number)).0 verdict in
        let run = fragment_run verdict.0 in
        (run, same_least number _ _ (two_taken run) two_told least)
    from_told (Verdict.Open number) verdict =
        let (founded, none, least) = (agree from told (Verdict.Open number)).0 verdict in
        let run = fragment_run verdict.0 in
        (run, λ n two. none n (two_told n two), same_least number _ _ (ends_without verdict.0) unclaimed_told least)
    from_told (Verdict.Complete last) verdict =
        let (same, founded, none, all) = (agree from told (Verdict.Complete last)).0 verdict in (
          same ∙ ap pos (sym alike.announced),
          fragment_run verdict.1,
          λ n two. none n (two_told n two),
          λ end ends n asked le.
              let claimed = all n asked (subst (λ last. n ≤ last) alike.announced le) in
              has_claimed end ends claimed.0 n claimed.1,
        )

pub fragments_tell_alike : audit_laws.VerdictsAgree → audit_laws.RunsExistWhereFounded → laws.FragmentsTellAlike
fragments_tell_alike agree exist from pieces told verdict alike =
    (to_told from pieces told alike agree exist verdict, from_told from pieces told alike agree exist verdict)
