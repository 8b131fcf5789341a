-- The verdict by runs and the verdict by conditions on the recording alone are the same.
use Rattle.std.proofs.Common.{◌≡◌, ℕ, zero, suc, ◌<◌, ◌≤◌, List, [], ◌∷◌, Option, Some, None, slice_get, refl, sym, ◌∙◌, ap, subst, arith, ◌⊎◌, inl, inr, ℤ, pos, negsuc}
use Rattle.std.proofs.lemmas.List.Elements.{Contains-append_left, Contains-push}
use Rattle.std.proofs.lemmas.Option.{slice_get_cases, slice_get_within}
use Rattle.std.proofs.lemmas.Bool.{cases_lt}
use Rattle.rtps_audit.specs.Delivery as delivery
use Rattle.rtps_audit.specs.RunVerdict as run_verdict
use Rattle.rtps_audit.specs.PlainVerdict as plain_verdict
use Rattle.rtps_audit.specs.Laws as laws
use Rattle.rtps_audit.specs.declared.verdict.Verdict.{Verdict}
use Rattle.rtps_audit.proofs.DeliveryRuns.{took, IsFoundedBelow, Ends-took, frugal_run, send_up_to}
use Rattle.rtps_audit.proofs.Sound.{reached-sound, founded_from_run, held_from_claim, spoken_from_held}

pub reached_states_are_sound : laws.ReachedStatesAreSound
reached_states_are_sound from speech state reached =
    let sound = reached-sound speech state reached in
    (sound.given, sound.held)

pub runs_exist_where_founded : laws.RunsExistWhereFounded
runs_exist_where_founded from speech = (
  λ run. founded_from_run speech run.0 run.1,
  λ founded. let run = frugal_run speech founded in (run.0, run.1),
)

-- one of these acts has a word for n
abbrev ActsTell : List (ℕ → Option delivery.Word) → ℕ → Type 0
ActsTell acts n = (k : ℕ) × (act : ℕ → Option delivery.Word) × (word : delivery.Word) × (slice_get acts k ≡ Some act) × (act n ≡ Some word)

no_acts : (n : ℕ) → ActsTell [] n → ⊥
no_acts n (k, act, word, stands, says) = cc

-- the first act has none, and nor has any other
none_more : (act : ℕ → Option delivery.Word) (acts : List (ℕ → Option delivery.Word)) (n : ℕ) → act n ≡ None → (ActsTell acts n → ⊥) → ActsTell (act ∷ acts) n → ⊥
none_more act acts n none rest (zero, other, word, stands, says) =
    let same : act ≡ other = cc in
    let clash : None ≡ Some word = sym none ∙ ap (λ (f : ℕ → Option delivery.Word). f n) same ∙ says in
    cc
none_more act acts n none rest (suc k, other, word, stands, says) = rest (k, other, word, stands, says)

acts_tell : (acts : List (ℕ → Option delivery.Word)) (n : ℕ) → ActsTell acts n ⊎ (ActsTell acts n → ⊥)
acts_tell [] n = inr (no_acts n)
acts_tell (act ∷ acts) n = first (act n) refl (acts_tell acts n)
  where
    first : (found : Option delivery.Word) → act n ≡ found → ActsTell acts n ⊎ (ActsTell acts n → ⊥) → ActsTell (act ∷ acts) n ⊎ (ActsTell (act ∷ acts) n → ⊥)
    first (Some word) e rest = inl (0, act, word, refl, e)
    first None e (inl (k, other, word, stands, says)) = inl (suc k, other, word, stands, says)
    first None e (inr rest) = inr (none_more act acts n e rest)

-- the datagram at a place has a word for n
abbrev TellsAt : ℕ → delivery.Speech → ℕ → ℕ → Type 0
TellsAt from speech i n = (k : ℕ) × (word : delivery.Word) × delivery.Gives from speech i k n word

not_by_acts : {from : ℕ} (speech : delivery.Speech) (i n : ℕ) (d : delivery.Datagram) → slice_get speech i ≡ Some d → (ActsTell d.acts n → ⊥) → TellsAt from speech i n → ⊥
not_by_acts speech i n d stands none (k, word, gives) =
    let same : gives.datagram ≡ d = (let both : Some gives.datagram ≡ Some d = sym gives.stands ∙ stands in cc) in
    none (subst (λ (x : delivery.Datagram). ActsTell x.acts n) same (k, gives.act, word, gives.speaks, gives.says))

tells_at : {from : ℕ} (speech : delivery.Speech) (i n : ℕ) → delivery.IsAsked from n → TellsAt from speech i n ⊎ (TellsAt from speech i n → ⊥)
tells_at {from} speech i n asked = elim (slice_get_cases speech i).1 [
  | inl found ↦ by_acts found.0 found.2 (acts_tell found.0.acts n)
  | inr past ↦ inr (λ h. let within = slice_get_within speech i h.2.datagram h.2.stands in absurd (omega arith))
]
  where
    by_acts : (d : delivery.Datagram) → slice_get speech i ≡ Some d → ActsTell d.acts n ⊎ (ActsTell d.acts n → ⊥) → TellsAt from speech i n ⊎ (TellsAt from speech i n → ⊥)
    by_acts d stands (inl (k, act, word, speaks, says)) =
        inl (k, word, record { datagram = d; act = act; stands = stands; speaks = speaks; asked = asked; says = says })
    by_acts d stands (inr none) = inr (not_by_acts speech i n d stands none)

-- whether some earlier datagram has a word for n
pub told_or_not : {from : ℕ} (speech : delivery.Speech) (j n : ℕ) → delivery.IsAsked from n → run_verdict.IsTold from speech j n ⊎ (run_verdict.IsTold from speech j n → ⊥)
told_or_not speech zero n asked = inr (λ told. let lt = told.earlier in omega arith)
told_or_not {from} speech (suc j) n asked = step (told_or_not speech j n asked) (tells_at speech j n asked)
  where
    later : run_verdict.IsTold from speech j n → run_verdict.IsTold from speech (suc j) n
    later told = record { place = told.place; act = told.act; word = told.word; earlier = let lt = told.earlier in omega arith; gives = told.gives }

    neither : (run_verdict.IsTold from speech j n → ⊥) → (TellsAt from speech j n → ⊥) → run_verdict.IsTold from speech (suc j) n → ⊥
    neither before here told = elim (cases_lt told.place j) [
      | inl lt ↦ before (record { place = told.place; act = told.act; word = told.word; earlier = lt; gives = told.gives })
      | inr past ↦ let lt = told.earlier in let same : told.place ≡ j = omega arith in here (subst (λ i. TellsAt from speech i n) same (told.act, told.word, told.gives))
    ]

    step : run_verdict.IsTold from speech j n ⊎ (run_verdict.IsTold from speech j n → ⊥) → TellsAt from speech j n ⊎ (TellsAt from speech j n → ⊥) → run_verdict.IsTold from speech (suc j) n ⊎ (run_verdict.IsTold from speech (suc j) n → ⊥)
    step (inl told) here = inl (later told)
    step (inr none) (inl (k, word, gives)) = inl (record { place = j; act = k; word = word; earlier = omega arith; gives = gives })
    step (inr none) (inr nor) = inr (neither none nor)

-- the least number of one set is that of the same set
pub least_same : (P Q : ℕ → Type 0) → ((n : ℕ) → P n → Q n) → ((n : ℕ) → Q n → P n) → (n : ℕ) → run_verdict.IsLeast P n → run_verdict.IsLeast Q n
least_same P Q to from n least = record { holds = to n least.holds; least = λ m h. least.least m (from m h) }

pub on_natural : (z : ℤ) (P Q : ℕ → Type 0) → ((n : ℕ) → P n → Q n) → run_verdict.OnNatural z P → run_verdict.OnNatural z Q
on_natural (pos n) P Q to h = to n h
on_natural (negsuc n) P Q to h = h

two_spoken : {from : ℕ} (speech : delivery.Speech) (n : ℕ) → run_verdict.EndsInConflict from speech n → plain_verdict.SpeaksTwo from speech n
two_spoken speech n (end, x, y, ends, one, two, differ) =
    (x, y, spoken_from_held speech end n (delivery.Word.Told x) ends one, spoken_from_held speech end n (delivery.Word.Told y) ends two, differ)

two_held : {from : ℕ} (speech : delivery.Speech) → plain_verdict.IsFounded from speech → (n : ℕ) → plain_verdict.SpeaksTwo from speech n → run_verdict.EndsInConflict from speech n
two_held speech founded n (x, y, one, two, differ) =
    let run = frugal_run speech founded in
    let first : delivery.DeliveryState = took run.0 n (delivery.Word.Told x) in
    let second : delivery.DeliveryState = took first n (delivery.Word.Told y) in (
      second,
      x,
      y,
      Ends-took speech first n (delivery.Word.Told y) (Ends-took speech run.0 n (delivery.Word.Told x) run.1 one) two,
      Contains-append_left first.held _ _ (Contains-push run.0.held (n, delivery.Word.Told x)),
      Contains-push first.held (n, delivery.Word.Told y),
      differ,
    )

unclaimed : {from : ℕ} (speech : delivery.Speech) (n : ℕ) → run_verdict.EndsWithout from speech n → plain_verdict.IsUnclaimed from speech n
unclaimed speech n (asked, announced, (end, ends, none)) =
    (asked, announced, λ claimed. none (held_from_claim speech end claimed.0 n ends claimed.1))

pub ends_without : {from : ℕ} (speech : delivery.Speech) → plain_verdict.IsFounded from speech → (n : ℕ) → plain_verdict.IsUnclaimed from speech n → run_verdict.EndsWithout from speech n
ends_without speech founded n (asked, announced, none) =
    let run = frugal_run speech founded in
    (asked, announced, (run.0, run.1, λ held. none (run.2 n held)))

-- some answer in the datagram at place j claims a number that no earlier datagram tells
abbrev IsUnfounded : ℕ → delivery.Speech → ℕ → Type 0
IsUnfounded from speech j = (n : ℕ) × run_verdict.ClaimsUntold from speech j n

unsendable : {from : ℕ} (speech : delivery.Speech) (j : ℕ) → IsUnfounded from speech j → run_verdict.IsUnsendable from speech j
unsendable speech j (n, (claims, untold)) = (
  slice_get_within speech j claims.datagram claims.stands,
  λ state reached. elim (cases_lt j state.sent) [
    | inl sent ↦ absurd (untold ((reached-sound speech state reached).founded j n sent claims))
    | inr not ↦ not
  ],
)

-- where no earlier datagram is unfounded, this one can be sent
first_unfounded : {from : ℕ} (speech : delivery.Speech) (j m : ℕ) → run_verdict.IsLeast (IsUnfounded from speech) j → run_verdict.IsUnsendable from speech m → j ≤ m
first_unfounded {from} speech j m least (within, unsent) = elim (cases_lt m j) [
  | inl earlier ↦ absurd (contradiction earlier)
  | inr later ↦ later
]
  where
    founded : m < j → IsFoundedBelow from speech (suc m)
    founded earlier i n lt claims = elim (told_or_not speech i n claims.asked) [
      | inl told ↦ told
      | inr untold ↦ absurd (let past = least.least i (n, (claims, untold)) in omega arith)
    ]

    contradiction : m < j → ⊥
    contradiction earlier =
        let run = send_up_to speech (suc m) (omega arith) (founded earlier) in
        let past = unsent run.1 (run.0, run.2) in
        let sent = run.3.0 in
        omega arith

pub to_plain : (from : ℕ) (speech : delivery.Speech) (verdict : Verdict) → run_verdict.IsVerdictFrom from speech verdict → plain_verdict.IsPlainVerdictFrom from speech verdict
to_plain from speech (Verdict.Unfounded datagram number) (no_run, (j, place, first, least)) = (
  j,
  place,
  record { holds = claim number least; least = λ m h. first.least m (unsendable speech m h) },
  least,
)
  where
    claim : (z : ℤ) → run_verdict.OnNatural z (run_verdict.IsLeast (run_verdict.ClaimsUntold from speech j)) → IsUnfounded from speech j
    claim (pos n) least = (n, least.holds)
    claim (negsuc n) none = absurd none
to_plain from speech (Verdict.Conflict number) (run, least) =
    let founded = founded_from_run speech run.0 run.1 in
    (founded, on_natural number _ _ (least_same _ _ (two_spoken speech) (two_held speech founded)) least)
to_plain from speech (Verdict.Open number) (run, none, least) =
    let founded = founded_from_run speech run.0 run.1 in
    (founded, λ n two. none n (two_held speech founded n two), on_natural number _ _ (least_same _ _ (unclaimed speech) (ends_without speech founded)) least)
to_plain from speech (Verdict.Complete last) (same, run, none, all) =
    let founded = founded_from_run speech run.0 run.1 in
    let frugal = frugal_run speech founded in
    (same, founded, λ n two. none n (two_held speech founded n two), λ n asked announced. frugal.2 n (all frugal.0 frugal.1 n asked announced))

pub from_plain : (from : ℕ) (speech : delivery.Speech) (verdict : Verdict) → plain_verdict.IsPlainVerdictFrom from speech verdict → run_verdict.IsVerdictFrom from speech verdict
from_plain from speech (Verdict.Unfounded datagram number) (j, place, first, least) = (
  λ run. let claim = first.holds in claim.1.1 (founded_from_run speech run.0 run.1 j claim.0 claim.1.0),
  (j, place, record { holds = unsendable speech j first.holds; least = λ m h. first_unfounded speech j m first h }, least),
)
from_plain from speech (Verdict.Conflict number) (founded, least) =
    let run = frugal_run speech founded in
    ((run.0, run.1), on_natural number _ _ (least_same _ _ (two_held speech founded) (two_spoken speech)) least)
from_plain from speech (Verdict.Open number) (founded, none, least) =
    let run = frugal_run speech founded in
    ((run.0, run.1), λ n two. none n (two_spoken speech n two), on_natural number _ _ (least_same _ _ (ends_without speech founded) (unclaimed speech)) least)
from_plain from speech (Verdict.Complete last) (same, founded, none, all) =
    let run = frugal_run speech founded in (
      same,
      (run.0, run.1),
      λ n two. none n (two_spoken speech n two),
      λ end ends n asked announced.
          let claimed = all n asked announced in
          held_from_claim speech end claimed.0 n ends claimed.1,
    )

pub verdicts_agree : laws.VerdictsAgree
verdicts_agree from speech verdict = (to_plain from speech verdict, from_plain from speech verdict)

pub plain_means_complete : laws.PlainMeansComplete
plain_means_complete from speech founded none all =
    from_plain from speech (Verdict.Complete (pos (delivery.last_announced_from from speech))) (refl, founded, none, all)
