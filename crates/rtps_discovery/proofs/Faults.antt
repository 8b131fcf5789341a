-- How many faults there are among acts, one act more: one at most.
use Rattle.std.proofs.Common.{◌≡◌, ◌+◌, ◌≤◌, ℕ, List, [], ◌∷◌, ◌++◌, ◌<◌, ◌∙◌, ap, arith, get_or, length, map, take}
use Rattle.std.proofs.lemmas.List.{map-append, take_more}
use Rattle.std.proofs.lemmas.List.Sums.{sum_by-cons}
use Rattle.rtps_receiver.specs.Values as values
use Rattle.std.specs.Prelude.{if◌then◌else◌}
use Rattle.rtps_receiver.specs.declared.spoken.Spoken.{Spoken}
use Rattle.rtps_discovery.specs.Notice as notice
use Rattle.rtps_discovery.specs.declared.notice.Noted.{Noted}

abbrev pub faults_of : Noted → ℕ
faults_of answer = if notice.is_fault answer then 1 else 0

pub one_fault : (answer : Noted) → faults_of answer ≤ 1
one_fault Noted.Nothing = omega arith
one_fault Noted.Kept = omega arith
one_fault (Noted.Fault fault) = omega arith

pub faults_more : (acts : List values.ActValue) (act : values.ActValue) → notice.faults_in (acts ++ act ∷ []) ≡ notice.faults_in acts + faults_of (notice.answer_of (notice.announcement_of act))
faults_more [] act = omega arith
faults_more (first ∷ acts) act =
    omega (
      arith,
      faults_more acts act,
      sum_by-cons (λ (a : values.ActValue). faults_of (notice.answer_of (notice.announcement_of a))) first (acts ++ act ∷ []),
      sum_by-cons (λ (a : values.ActValue). faults_of (notice.answer_of (notice.announcement_of a))) first acts,
    )

-- the first acts of a list, one more
pub acts_more : (acts : List Spoken) (i : ℕ) (d : Spoken) → i < length acts → map values.spoken_value (take (i + 1) acts) ≡ map values.spoken_value (take i acts) ++ values.spoken_value (get_or acts i d) ∷ []
acts_more acts i d lt = ap (map values.spoken_value) (take_more acts i d lt) ∙ map-append values.spoken_value (take i acts) (get_or acts i d ∷ [])
