-- A pair of best effort behind those that are summed, and bounds of the sums.
use Rattle.std.proofs.Common.{◌≡◌, ◌∙◌, ℕ, ◌+◌, ◌*◌, ◌<◌, ◌≤◌, ◌^◌, Bool, true, false, if◌then◌else◌, List, [], ◌∷◌, ◌++◌, All, ap, arith, map, refl, subst, sym}
use Rattle.std.proofs.lemmas.List.{map_push}
use Rattle.std.proofs.lemmas.List.Elements.{All-cons, All-contains, All-head, All-nil, All-tail, Contains-push}
use Rattle.rtps_report.specs.BestEfforts as best_efforts
use Rattle.rtps_report.specs.declared.best_effort.BestEffort.{BestEffort}

-- ---- where a pair is added

-- what the last of sums and a pair become
abbrev pub behind : Bool → best_efforts.BestEffortValue → best_efforts.CountedValue → List best_efforts.BestEffortValue
behind same sum one = if same then best_efforts.with_counted sum one ∷ [] else sum ∷ best_efforts.alone one ∷ []

pub added_at : (front : List best_efforts.BestEffortValue) (sum : best_efforts.BestEffortValue) (one : best_efforts.CountedValue) → best_efforts.added_to (front ++ sum ∷ []) one ≡ front ++ behind (best_efforts.is_of sum.topic one) sum one
added_at [] sum one = refl
added_at (first ∷ []) sum one = refl
added_at (first ∷ next ∷ front) sum one = ap (λ sums. first ∷ sums) (added_at (next ∷ front) sum one)

-- the sums of a vector, whose last one is known
pub values_end : (items front : List BestEffort) (last : BestEffort) → items ≡ front ++ last ∷ [] → map best_efforts.best_effort_value items ≡ map best_efforts.best_effort_value front ++ best_efforts.best_effort_value last ∷ []
values_end items front last is = ap (map best_efforts.best_effort_value) is ∙ map_push best_efforts.best_effort_value front last

pub added_behind : (items front : List BestEffort) (last : BestEffort) (one : best_efforts.CountedValue) (same : Bool) → items ≡ front ++ last ∷ [] → same ≡ best_efforts.is_of last.topic.now one
    → best_efforts.added_to (map best_efforts.best_effort_value items) one ≡ map best_efforts.best_effort_value front ++ behind same (best_efforts.best_effort_value last) one
added_behind items front last one same is test =
    ap (λ sums. best_efforts.added_to sums one) (values_end items front last is) ∙ added_at (map best_efforts.best_effort_value front) (best_efforts.best_effort_value last) one
    ∙ ap (λ b. map best_efforts.best_effort_value front ++ behind b (best_efforts.best_effort_value last) one) (sym test)

pub last_within : (items front : List BestEffort) (last : BestEffort) → items ≡ front ++ last ∷ [] → best_efforts.AreWithin (map best_efforts.best_effort_value items) → best_efforts.IsWithin (best_efforts.best_effort_value last)
last_within items front last is within =
    All-contains best_efforts.IsWithin (map best_efforts.best_effort_value front ++ best_efforts.best_effort_value last ∷ []) (best_efforts.best_effort_value last) (subst (All best_efforts.IsWithin) (values_end items front last is) within)
    (Contains-push (map best_efforts.best_effort_value front) (best_efforts.best_effort_value last))

-- ---- bounds

-- so many pairs at most, each of which counts fewer than 2 ^ 64 numbers
pub record IsUpTo (most : ℕ) (sum : best_efforts.BestEffortValue) : Type 0 where
  pub pairs : sum.pairs ≤ most
  pub numbers : sum.numbers ≤ sum.pairs * 18446744073709551615
  pub recorded : sum.recorded ≤ sum.pairs * 18446744073709551615

pub with_up_to : (most : ℕ) (sum : best_efforts.BestEffortValue) (one : best_efforts.CountedValue) → best_efforts.IsSmall one → IsUpTo most sum → IsUpTo (most + 1) (best_efforts.with_counted sum one)
with_up_to most sum one small up =
    let pairs = up.pairs in
    let numbers = up.numbers in
    let recorded = up.recorded in
    let few = small.numbers in
    let less = small.recorded in
    record { pairs = omega arith; numbers = omega arith; recorded = omega arith }

alone_up_to : (most : ℕ) (one : best_efforts.CountedValue) → best_efforts.IsSmall one → IsUpTo (most + 1) (best_efforts.alone one)
alone_up_to most one small =
    let few = small.numbers in
    let less = small.recorded in
    record { pairs = omega arith; numbers = omega arith; recorded = omega arith }

more_up_to : (most : ℕ) (sum : best_efforts.BestEffortValue) → IsUpTo most sum → IsUpTo (most + 1) sum
more_up_to most sum up = let pairs = up.pairs in record { pairs = omega arith; numbers = up.numbers; recorded = up.recorded }

pub added_up_to : (most : ℕ) (sums : List best_efforts.BestEffortValue) (one : best_efforts.CountedValue) → best_efforts.IsSmall one → All (IsUpTo most) sums → All (IsUpTo (most + 1)) (best_efforts.added_to sums one)
added_up_to most [] one small all = All-cons (IsUpTo (most + 1)) (best_efforts.alone one) [] (alone_up_to most one small) (All-nil (IsUpTo (most + 1)))
added_up_to most (sum ∷ []) one small all = by (best_efforts.is_of sum.topic one) (All-head (IsUpTo most) sum [] all)
  where
    by : (same : Bool) → IsUpTo most sum → All (IsUpTo (most + 1)) (behind same sum one)
    by true up = All-cons (IsUpTo (most + 1)) (best_efforts.with_counted sum one) [] (with_up_to most sum one small up) (All-nil (IsUpTo (most + 1)))
    by false up =
        All-cons (IsUpTo (most + 1)) sum (best_efforts.alone one ∷ []) (more_up_to most sum up)
        (All-cons (IsUpTo (most + 1)) (best_efforts.alone one) [] (alone_up_to most one small) (All-nil (IsUpTo (most + 1))))
added_up_to most (sum ∷ next ∷ sums) one small all =
    All-cons (IsUpTo (most + 1)) sum (best_efforts.added_to (next ∷ sums) one) (more_up_to most sum (All-head (IsUpTo most) sum (next ∷ sums) all))
    (added_up_to most (next ∷ sums) one small (All-tail (IsUpTo most) sum (next ∷ sums) all))

pub within_from : (most : ℕ) (sums : List best_efforts.BestEffortValue) → most + 1 < 2 ^ 64 → All (IsUpTo most) sums → best_efforts.AreWithin sums
within_from most sums few all = λ k d in'.
    let up = all k d in' in
    let pairs = up.pairs in
    record { pairs = omega arith; numbers = up.numbers; recorded = up.recorded }
