-- Who was never told of what, one more each.
use Rattle.std.proofs.Common.{◌≡◌, ◌∙◌, ℕ, ◌+◌, ◌<◌, ◌≤◌, Bool, true, false, ◌||◌, cond, List, [], ◌∷◌, ◌++◌, ap, ap₂, arith, count_by, get_or, length, map, refl, sym, take}
use mir.Val.{bool_byte}
use Rattle.std.specs.List.{list_any}
use Rattle.std.specs.Ordering.{is_eq}
use Rattle.std.specs.Prelude.{sum_by}
use Rattle.std.proofs.lemmas.List.{get_or_default, map_more, map_push}
use Rattle.std.proofs.lemmas.List.Folds.{list_any-append}
use Rattle.std.proofs.lemmas.List.Sums.{count_by_more_no, count_by_more_yes, sum_by-append}
use Rattle.rtps_ids.specs.declared.identity.Guid.{Guid}
use Rattle.rtps_discovery.specs.GuidOrder as guid_order
use Rattle.rtps_audit.specs.Placed as placed
use Rattle.rtps_audit.proofs.Offered.{is_eq-guid_cmp}
use Rattle.rtps_discovery.specs.Directory as directory
use Rattle.rtps_evidence.specs.Explanation as explanation
use Rattle.rtps_report.specs.NotTold as not_told
use Rattle.rtps_report.specs.declared.not_told.NotTold.{NotTold}
use Rattle.rtps_report.specs.declared.not_told.TopicEnd.{TopicEnd}

-- one element more of a list that is made of another, both seen as values
pub made_more : {X Y V : Type 0} (view : Y → V) (made : X → V) (xs : List X) (ys more : List Y) (i : ℕ) (x : X) (y : Y) → i < length xs → x ≡ get_or xs i x → more ≡ ys ++ y ∷ []
    → view y ≡ made x → map view ys ≡ map made (take i xs) → map view more ≡ map made (take (i + 1) xs)
made_more {X} {Y} {V} view made xs ys more i x y within is pushed same so_far =
    ap (map view) pushed ∙ map_push view ys y ∙ ap₂ (λ (front : List V) (last : V). front ++ last ∷ []) so_far (same ∙ ap made is) ∙ sym (map_more made xs i x within)

-- one endpoint more, with its topic
pub ends_more : (entries : directory.Entries) (guids : List Guid) (ys more : List TopicEnd) (i : ℕ) (d : Guid) (y : TopicEnd) → i < length guids → more ≡ ys ++ y ∷ [] → y.guid ≡ get_or guids i d
    → y.topic.now ≡ explanation.topic_of (directory.settled_at entries (get_or guids i d)) → map not_told.topic_end_value ys ≡ map (not_told.with_topic entries) (take i guids)
    → map not_told.topic_end_value more ≡ map (not_told.with_topic entries) (take (i + 1) guids)
ends_more entries guids ys more i d y within pushed same topic so_far =
    let made : List ℕ → Guid → not_told.TopicEndValue = λ name guid. record { topic = name; guid = guid } in
    made_more not_told.topic_end_value (not_told.with_topic entries) guids ys more i (get_or guids i d) y within (get_or_default guids i d (get_or guids i d) within) pushed (ap₂ made topic same) so_far

or_back : (b known : Bool) → cond b true known ≡ (known || (b || false))
or_back true true = refl
or_back true false = refl
or_back false true = refl
or_back false false = refl

-- the participant was not told
abbrev pub is_to : Guid → not_told.NotToldValue → Bool
is_to guid one = placed.is_guid one.to guid

-- one participant more that was not told
pub those_more : (found : List NotTold) (i : ℕ) (one : NotTold) (guid : Guid) (known new : Bool) → i < length found → one ≡ get_or found i one
    → new ≡ cond (is_eq (guid_order.guid_cmp one.to guid)) true known → known ≡ list_any (is_to guid) (map not_told.not_told_value (take i found))
    → new ≡ list_any (is_to guid) (map not_told.not_told_value (take (i + 1) found))
those_more found i one guid known new within is added so_far =
    added ∙ ap (λ (b : Bool). cond b true known) (is_eq-guid_cmp one.to guid) ∙ or_back (placed.is_guid one.to guid) known
    ∙ ap₂ (λ (a b : Bool). a || (b || false)) so_far (ap (λ (same : NotTold). placed.is_guid same.to guid) is)
    ∙ sym (ap (list_any (is_to guid)) (map_more not_told.not_told_value found i one within)
    ∙ list_any-append (is_to guid) (map not_told.not_told_value (take i found)) (not_told.not_told_value (get_or found i one) ∷ []))

-- one sum more
pub endpoints_more : (found : List NotTold) (i : ℕ) (one : NotTold) → i < length found → one ≡ get_or found i one
    → sum_by not_told.endpoints_of (map not_told.not_told_value (take i found)) + not_told.endpoints_of (not_told.not_told_value one) ≡ sum_by not_told.endpoints_of (map not_told.not_told_value (take (i + 1) found))
endpoints_more found i one within is =
    let sum = sum_by not_told.endpoints_of (map not_told.not_told_value (take i found)) in
    let last : List not_told.NotToldValue = not_told.not_told_value (get_or found i one) ∷ [] in
    let zero_more : not_told.endpoints_of (not_told.not_told_value (get_or found i one)) ≡ sum_by not_told.endpoints_of last = omega arith in
    ap (λ (same : NotTold). sum + not_told.endpoints_of (not_told.not_told_value same)) is ∙ ap (λ (n : ℕ). sum + n) zero_more
    ∙ sym (ap (sum_by not_told.endpoints_of) (map_more not_told.not_told_value found i one within) ∙ sum_by-append not_told.endpoints_of (map not_told.not_told_value (take i found)) last)

-- one more is counted, or not
pub counted_more : {X : Type 0} (p : X → Bool) (xs : List X) (i : ℕ) (d : X) (b : Bool) → i < length xs → p (get_or xs i d) ≡ b → count_by p (take i xs) + bool_byte b ≡ count_by p (take (i + 1) xs)
counted_more p xs i d true within e = sym (count_by_more_yes p xs i d within e)
counted_more p xs i d false within e = let more = count_by_more_no p xs i d within e in omega (arith, more)

pub bit_small : (b : Bool) → bool_byte b ≤ 1
bit_small true = omega arith
bit_small false = omega arith
