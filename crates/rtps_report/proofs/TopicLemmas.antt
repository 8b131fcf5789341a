-- The first topic of rows, and the topics of those that are left.
use Rattle.std.proofs.Common.{◌≡◌, ◌+◌, ◌-◌, ◌<◌, ◌∷◌, ◌++◌, [], ◌∙◌, ℕ, Bool, true, false, List, add-one, ap, append_assoc, arith, drop, drop-drop, get_or, if◌then◌else◌, length, map, refl, suc, sym, take}
use Rattle.std.proofs.Math.Seq.{drop-cons, drop-length}
use Rattle.std.proofs.lemmas.List.{drop-map, take-map}
use Rattle.rtps_evidence.specs.declared.explanation.Explanation.{Explanation}
use Rattle.rtps_evidence.specs.Explanation as explanation
use Rattle.rtps_report.specs.ByTopic as by_topic

-- how many of the rows behind a row are of its topic
pub front_of : explanation.ExplanationValue → List explanation.ExplanationValue → ℕ
front_of row [] = 0
front_of row (next ∷ rows) = if by_topic.have_one_topic row next then suc (front_of next rows) else 0

by_test : (same : Bool) (row next : explanation.ExplanationValue) (rows : List explanation.ExplanationValue) (size : ℕ)
    → by_topic.topics_of (next ∷ rows) ≡ (next ∷ take size rows) ∷ by_topic.topics_of (drop size rows)
    → (if same then (row ∷ next ∷ take size rows) ∷ by_topic.topics_of (drop size rows) else (row ∷ []) ∷ (next ∷ take size rows) ∷ by_topic.topics_of (drop size rows))
    ≡ (row ∷ take (if same then suc size else 0) (next ∷ rows)) ∷ by_topic.topics_of (drop (if same then suc size else 0) (next ∷ rows))
by_test true row next rows size behind = refl
by_test false row next rows size behind = ap (λ topics. (row ∷ []) ∷ topics) (sym behind)

pub first_topic : (row : explanation.ExplanationValue) (rows : List explanation.ExplanationValue)
    → by_topic.topics_of (row ∷ rows) ≡ (row ∷ take (front_of row rows) rows) ∷ by_topic.topics_of (drop (front_of row rows) rows)
unfolding front_of
first_topic row [] = refl
first_topic row (next ∷ rows) =
    let behind = first_topic next rows in ap (by_topic.joined row) behind ∙ by_test (by_topic.have_one_topic row next) row next rows (front_of next rows) behind

-- how many of the rows from a place on are of the topic of the one before
pub front_at : List Explanation → ℕ → Explanation → ℕ
front_at rows place row = front_of (explanation.explanation_value row) (map explanation.explanation_value (drop place rows))

by_holds : (same which : Bool) (size : ℕ) → same ≡ which → (if same then suc size else 0) ≡ (if which then suc size else 0)
by_holds same which size holds = ap (λ (test : Bool). if test then suc size else 0) holds

-- a row at a place joins the one before
abbrev pub joins_at : List Explanation → ℕ → Explanation → Bool
joins_at rows place row = by_topic.have_one_topic (explanation.explanation_value (get_or rows (place - 1) row)) (explanation.explanation_value (get_or rows place row))

by_step : (rows : List Explanation) (place : ℕ) (row : Explanation) → place < length rows
    → front_at rows place (get_or rows (place - 1) row) ≡ (if joins_at rows place row then suc (front_at rows (suc place) (get_or rows place row)) else 0)
unfolding front_at front_of
by_step rows place row within =
    ap (λ left. front_of (explanation.explanation_value (get_or rows (place - 1) row)) (map explanation.explanation_value left)) (drop-cons rows place row within)

pub front_goes_on : (rows : List Explanation) (place : ℕ) (row : Explanation) → place < length rows → joins_at rows place row ≡ true
    → front_at rows place (get_or rows (place - 1) row) ≡ suc (front_at rows (suc place) (get_or rows place row))
front_goes_on rows place row within same =
    by_step rows place row within ∙ by_holds (joins_at rows place row) true (front_at rows (suc place) (get_or rows place row)) same

pub front_ends : (rows : List Explanation) (place : ℕ) (row : Explanation) → place < length rows → joins_at rows place row ≡ false
    → front_at rows place (get_or rows (place - 1) row) ≡ 0
front_ends rows place row within same =
    by_step rows place row within ∙ by_holds (joins_at rows place row) false (front_at rows (suc place) (get_or rows place row)) same

-- the front is known where a row does not join, and behind the last
pub known_at : (rows : List Explanation) (place : ℕ) (row : Explanation)
    → front_at rows 1 (get_or rows 0 row) + 1 ≡ place + front_at rows place (get_or rows (place - 1) row)
    → front_at rows place (get_or rows (place - 1) row) ≡ 0 → place ≡ suc (front_at rows 1 (get_or rows 0 row))
known_at rows place row sum none = omega (arith, sum, none)

pub known_further : (rows : List Explanation) (place : ℕ) (row : Explanation) → 0 < place
    → front_at rows 1 (get_or rows 0 row) + 1 ≡ place + front_at rows place (get_or rows (place - 1) row)
    → front_at rows place (get_or rows (place - 1) row) ≡ suc (front_at rows (suc place) (get_or rows place row))
    → front_at rows 1 (get_or rows 0 row) + 1 ≡ place + 1 + front_at rows (place + 1) (get_or rows (place + 1 - 1) row)
known_further rows place row some sum next =
    let here : place + 1 - 1 ≡ place = omega arith in
    rw here (rw (add-one place) (omega (arith, sum, next)))

-- the first topic is so many rows long
pub cut : (rows : List Explanation) (size : ℕ) → 0 < length rows → ((row : Explanation) → size ≡ suc (front_at rows 1 (get_or rows 0 row)))
    → by_topic.topics_of (map explanation.explanation_value rows) ≡ map explanation.explanation_value (take size rows) ∷ by_topic.topics_of (map explanation.explanation_value (drop size rows))
unfolding front_at front_of
cut [] size some known = grind (arith, some)
cut (row ∷ rows) size some known =
    let values = map explanation.explanation_value rows in
    let front = front_of (explanation.explanation_value row) values in
    first_topic (explanation.explanation_value row) values
    ∙ ap (λ topic. (explanation.explanation_value row ∷ topic) ∷ by_topic.topics_of (drop front values)) (take-map explanation.explanation_value front rows)
    ∙ ap (λ left. map explanation.explanation_value (take (suc front) (row ∷ rows)) ∷ by_topic.topics_of left) (drop-map explanation.explanation_value front rows)
    ∙ sym (ap (λ size. map explanation.explanation_value (take size (row ∷ rows)) ∷ by_topic.topics_of (map explanation.explanation_value (drop size (row ∷ rows)))) (known row))

-- nothing is left behind the last row
pub front_at_end : (rows : List Explanation) (row : Explanation) → front_at rows (length rows) row ≡ 0
unfolding front_at front_of
front_at_end rows row = ap (λ left. front_of (explanation.explanation_value row) (map explanation.explanation_value left)) (drop-length rows)

-- a step of the loop over topics: the first of the rows that are left goes to the end of those that are known
pub topic_more : (rows rest topic : List Explanation) (start size : ℕ) (known all : List (List explanation.ExplanationValue)) → rest ≡ drop start rows
    → by_topic.topics_of (map explanation.explanation_value rest) ≡ map explanation.explanation_value (take size rest) ∷ by_topic.topics_of (map explanation.explanation_value (drop size rest))
    → topic ≡ take size rest → known ++ by_topic.topics_of (map explanation.explanation_value (drop start rows)) ≡ all
    → (known ++ map explanation.explanation_value topic ∷ []) ++ by_topic.topics_of (map explanation.explanation_value (drop (start + size) rows)) ≡ all
topic_more rows rest topic start size known all is first same before =
    append_assoc known (map explanation.explanation_value topic ∷ []) (by_topic.topics_of (map explanation.explanation_value (drop (start + size) rows)))
    ∙ ap (λ left. known ++ map explanation.explanation_value topic ∷ by_topic.topics_of (map explanation.explanation_value left)) (sym (drop-drop size start rows) ∙ ap (drop size) (sym is))
    ∙ ap (λ one. known ++ map explanation.explanation_value one ∷ by_topic.topics_of (map explanation.explanation_value (drop size rest))) same
    ∙ ap (λ topics. known ++ topics) (sym first) ∙ ap (λ left. known ++ by_topic.topics_of (map explanation.explanation_value left)) is ∙ before
