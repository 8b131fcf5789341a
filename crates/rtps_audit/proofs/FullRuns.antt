-- The run that takes all it can: it is one, whichever bound its numbers are looked at below, and it decides of each recording.
use Rattle.std.proofs.Common.{◌≡◌, ℕ, zero, suc, ◌<◌, ◌≤◌, List, [], ◌∷◌, ◌++◌, Option, Some, None, slice_get, refl, sym, ◌∙◌, ap, ap₂, arith, append-nil, inl, inr}
use Rattle.std.proofs.lemmas.Bool.{cases_lt}
use Rattle.rtps_ids.specs.declared.identity.Guid.{Guid}
use Rattle.rtps_audit.specs.Delivery as delivery
use Rattle.rtps_audit.specs.FullRun as full_run
use Rattle.rtps_audit.specs.Laws as laws
use Rattle.rtps_audit.proofs.FullRunLemmas.{says_asked, full_run_decides}
use Rattle.rtps_audit.specs.RunVerdict as run_verdict
use Rattle.rtps_receiver.specs.Values as values
use Rattle.rtps_audit.specs.Speech as speech
use Rattle.rtps_audit.specs.declared.verdict.Verdict.{Verdict}
use Rattle.rtps_audit.proofs.Bounded.{end_of_recording, some_bound}
use Rattle.rtps_audit.proofs.EachVerdict.{each_has_a_verdict}

-- ---- by any bound

-- each word that these acts have for a number that is asked for is for one below the bound
abbrev ActsEnd : ℕ → List (ℕ → Option delivery.Word) → ℕ → Type 0
ActsEnd from acts bound = (k n : ℕ) (act : ℕ → Option delivery.Word) (word : delivery.Word) → slice_get acts k ≡ Some act → delivery.IsAsked from n → act n ≡ Some word → n < bound

no_take : (from i k : ℕ) (act : ℕ → Option delivery.Word) (n : ℕ) (found : Option delivery.Word) → full_run.asked_word from act n ≡ found → ((word : delivery.Word) → delivery.IsAsked from n → act n ≡ Some word → ⊥) → full_run.take_of i k n found ≡ []
no_take from i k act n None is never = refl
no_take from i k act n (Some word) is never = absurd (let asked = says_asked from act n word is in never word asked.0 asked.1)

act_same : (from i k : ℕ) (act : ℕ → Option delivery.Word) (bound other : ℕ) → ((n : ℕ) (word : delivery.Word) → delivery.IsAsked from n → act n ≡ Some word → n < bound) → bound ≤ other
    → full_run.takes_of_act from i k act other ≡ full_run.takes_of_act from i k act bound
act_same from i k act bound zero ends le = let none : 0 ≡ bound = omega arith in ap (full_run.takes_of_act from i k act) none
act_same from i k act bound (suc m) ends le = elim (cases_lt m bound) [
  | inl below ↦ let all : suc m ≡ bound = omega arith in ap (full_run.takes_of_act from i k act) all
  | inr past ↦
      ap (λ (es : List delivery.Event). full_run.takes_of_act from i k act m ++ es) (no_take from i k act m (full_run.asked_word from act m) refl (λ word asked says. let lt = ends m word asked says in omega arith))
      ∙ append-nil (full_run.takes_of_act from i k act m)
      ∙ act_same from i k act bound m ends past
]

acts_same : (from i k : ℕ) (acts : List (ℕ → Option delivery.Word)) (bound other : ℕ) → ActsEnd from acts bound → bound ≤ other → full_run.takes_of_acts from i k acts other ≡ full_run.takes_of_acts from i k acts bound
acts_same from i k [] bound other ends le = refl
acts_same from i k (act ∷ acts) bound other ends le =
    ap₂ (λ (xs ys : List delivery.Event). xs ++ ys) (act_same from i k act bound other (λ n word asked says. ends 0 n act word refl asked says) le)
    (acts_same from i (suc k) acts bound other (λ j n one word at asked says. ends (suc j) n one word at asked says) le)

first_ends : (from : ℕ) (datagram : delivery.Datagram) (speech : delivery.Speech) (bound : ℕ) → full_run.IsBoundedBy from (datagram ∷ speech) bound → ActsEnd from datagram.acts bound
first_ends from datagram speech bound bounded k n act word speaks asked says =
    bounded 0 k n word (record { datagram = datagram; act = act; stands = refl; speaks = speaks; asked = asked; says = says })

rest_bounded : (from : ℕ) (datagram : delivery.Datagram) (speech : delivery.Speech) (bound : ℕ) → full_run.IsBoundedBy from (datagram ∷ speech) bound → full_run.IsBoundedBy from speech bound
rest_bounded from datagram speech bound bounded i k n word gives =
    bounded (suc i) k n word (record { datagram = gives.datagram; act = gives.act; stands = gives.stands; speaks = gives.speaks; asked = gives.asked; says = gives.says })

run_same : (from i : ℕ) (speech : delivery.Speech) (bound other : ℕ) → full_run.IsBoundedBy from speech bound → bound ≤ other → full_run.full_run_from from i speech other ≡ full_run.full_run_from from i speech bound
run_same from i [] bound other bounded le = refl
run_same from i (datagram ∷ speech) bound other bounded le =
    ap₂ (λ (xs ys : List delivery.Event). (delivery.Event.Send ∷ xs) ++ ys) (acts_same from i 0 datagram.acts bound other (first_ends from datagram speech bound bounded) le)
    (run_same from (suc i) speech bound other (rest_bounded from datagram speech bound bounded) le)

pub full_run_is_one : laws.FullRunIsOne
full_run_is_one from speech bound other bounded also = elim (cases_lt bound other) [
  | inl below ↦ sym (run_same from 0 speech bound other bounded (omega arith))
  | inr above ↦ run_same from 0 speech other bound also above
]

-- ---- of each recording

pub each_recording_has_a_verdict : laws.EachRecordingHasAVerdict
each_recording_has_a_verdict from writer reader recording =
    let acts = speech.acts_by_datagram recording in
    each_has_a_verdict from (speech.speech_by writer reader acts) (end_of_recording acts) (some_bound from writer reader acts)

to_full : {from : ℕ} (speech : delivery.Speech) (bound : ℕ) → full_run.IsBoundedBy from speech bound → delivery.HasRun from speech → full_run.IsFullRun from speech
to_full {from} speech bound bounded run = record { bound = bound; bounded = bounded; allowed = (full_run_decides from speech bound bounded).0 run }

from_full : {from : ℕ} (speech : delivery.Speech) → full_run.IsFullRun from speech → delivery.HasRun from speech
from_full {from} speech full = (full_run_decides from speech full.bound full.bounded).1 full.allowed

pub full_run_decides_recordings : laws.FullRunDecidesRecordings
full_run_decides_recordings from writer reader recording =
    let acts = speech.acts_by_datagram recording in
    (to_full (speech.speech_by writer reader acts) (end_of_recording acts) (some_bound from writer reader acts), from_full (speech.speech_by writer reader acts))

full_run_by : (from : ℕ) (speech : delivery.Speech) (bound : ℕ) (verdict : Verdict) → full_run.IsBoundedBy from speech bound → run_verdict.IsVerdictFrom from speech verdict → full_run.HasFullRunFrom from speech verdict
full_run_by from speech bound (Verdict.Unfounded datagram number) bounded is = λ full. is.0 (from_full speech full)
full_run_by from speech bound (Verdict.Conflict number) bounded is = to_full speech bound bounded is.0
full_run_by from speech bound (Verdict.Open number) bounded is = to_full speech bound bounded is.0
full_run_by from speech bound (Verdict.Complete last) bounded is = to_full speech bound bounded is.1

-- by each verdict on the acts of a recording it is known whether the full run is one
pub full_run_where : (from : ℕ) (writer reader : Guid) (recording : List (List values.ActValue)) (verdict : Verdict) → run_verdict.IsVerdictFrom from (speech.speech_by writer reader recording) verdict
    → full_run.HasFullRunFrom from (speech.speech_by writer reader recording) verdict
full_run_where from writer reader recording verdict is =
    full_run_by from (speech.speech_by writer reader recording) (end_of_recording recording) verdict (some_bound from writer reader recording) is
