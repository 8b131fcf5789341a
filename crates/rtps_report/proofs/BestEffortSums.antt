-- Pairs of best effort that are sorted by topic, one after another, give the sums of each topic.
use Rattle.std.proofs.Common.{◌≡◌, ◌∙◌, ℕ, suc, ◌+◌, ◌<◌, Bool, true, false, ◌⊎◌, cond, if◌then◌else◌, Contains, List, [], ◌∷◌, ◌++◌, IsPermutation, IsSortedBy, Less, Equal, Greater, Ordering, ap, append-nil, append_assoc, arith, filter, fold, get_or, inl, inr, is_lt, length, map, nat_cmp, refl, subst, sum_by, sym, take}
use Rattle.std.specs.Cmp.Lexicographic.{slice_cmp}
use Rattle.std.specs.List.{AllByRecursion}
use Rattle.std.specs.List.Sorted.{IsStrictlySortedBy}
use Rattle.std.specs.Ordering.{ordering_reverse}
use Rattle.std.specs.Str.{bytes_eq}
use Rattle.std.proofs.lemmas.Bool.{false_from_ne_true}
use Rattle.std.proofs.lemmas.Cmp.{nat_list_cmp_total, tied_itself}
use Rattle.std.proofs.lemmas.List.{length_push, map_more}
use Rattle.std.proofs.lemmas.List.Elements.{All-from_recursion, All-nil, All-weaker, filter-append}
use Rattle.std.proofs.lemmas.List.Sorted.{Contains-permutation, IsPermutation-map, IsPermutation-sym, sum_by-IsPermutation}
use Rattle.std.proofs.lemmas.List.Sums.{fold_push, length-filter, sum_by-cons, sum_by_push}
use Rattle.std.proofs.lemmas.Map.Lookups.{exact_bytes}
use Rattle.std.proofs.lemmas.Slice.Eq.{bytes_eq-Decides}
use Rattle.rtps_audit.proofs.Offered.{contains_cases, contains_head, contains_tail}
use Rattle.rtps_report.specs.BestEfforts as best_efforts
use Rattle.rtps_report.specs.declared.best_effort.Counted.{Counted}
use Rattle.rtps_report.proofs.BestEffortLemmas.{added_at, behind}

-- ---- the order of topics

abbrev pub topic_cmp : List ℕ → List ℕ → Ordering
topic_cmp one other = slice_cmp nat_cmp one other

-- a topic that is not below another is that or behind it
behind_if : (topic other : List ℕ) → is_lt (topic_cmp other topic) ≡ false → bytes_eq other topic ≡ false → topic_cmp topic other ≡ Less
behind_if topic other up differs = nat_list_cmp_total.antisymm topic other ∙ by (topic_cmp other topic) refl up
  where
    by : (o : Ordering) → topic_cmp other topic ≡ o → is_lt o ≡ false → ordering_reverse o ≡ Less
    by Less is stays = absurd cc
    by Equal is stays =
        let same : bytes_eq other topic ≡ true = (bytes_eq-Decides other topic).1 (exact_bytes other topic is) in
        absurd (let clash : true ≡ false = sym same ∙ differs in cc)
    by Greater is stays = refl

behind_both : (first topic other : List ℕ) → topic_cmp first topic ≡ Less → is_lt (topic_cmp other topic) ≡ false → topic_cmp first other ≡ Less
behind_both first topic other less up = by (topic_cmp other topic) refl up
  where
    by : (o : Ordering) → topic_cmp other topic ≡ o → is_lt o ≡ false → topic_cmp first other ≡ Less
    by Less is stays = absurd cc
    by Equal is stays = subst (λ t. topic_cmp first t ≡ Less) (sym (exact_bytes other topic is)) less
    by Greater is stays = nat_list_cmp_total.trans first topic other less (nat_list_cmp_total.antisymm topic other ∙ ap ordering_reverse is)

differ_if : (topic other : List ℕ) → topic_cmp topic other ≡ Less → (bytes_eq topic other ≡ false) × (bytes_eq other topic ≡ false)
differ_if topic other less = (
  false_from_ne_true (bytes_eq topic other) (λ same. never ((bytes_eq-Decides topic other).0 same)),
  false_from_ne_true (bytes_eq other topic) (λ same. never (sym ((bytes_eq-Decides other topic).0 same))),
)
  where
    never : topic ≡ other → ⊥
    never same = let itself : Equal ≡ Less = sym (tied_itself nat_list_cmp_total other) ∙ ap (λ t. topic_cmp t other) (sym same) ∙ less in cc

-- pairs whose topics do not fall, from this one on
abbrev pub AreRising : List ℕ → List best_efforts.CountedValue → Type 0
AreRising topic [] = Unit {0}
AreRising topic (one ∷ counted) = (is_lt (topic_cmp one.topic topic) ≡ false) × AreRising one.topic counted

all_behind : (first topic : List ℕ) (counted : List best_efforts.CountedValue) → topic_cmp first topic ≡ Less → AreRising topic counted → AllByRecursion (λ one. topic_cmp first one.topic ≡ Less) counted
all_behind first topic [] less up = tt
all_behind first topic (one ∷ counted) less up = let here = behind_both first topic one.topic less up.0 in (here, all_behind first one.topic counted here up.1)

-- ---- pairs of other topics count nothing

none_of : (topic : List ℕ) (counted : List best_efforts.CountedValue) → AllByRecursion (λ one. topic_cmp topic one.topic ≡ Less) counted → filter (best_efforts.is_of topic) counted ≡ []
none_of topic [] all = refl
none_of topic (one ∷ counted) all = ap (λ b. cond b (one ∷ filter (best_efforts.is_of topic) counted) (filter (best_efforts.is_of topic) counted)) (differ_if topic one.topic all.0).1 ∙ none_of topic counted all.1

abbrev of_numbers : List ℕ → ℕ → ℕ → ℕ → best_efforts.BestEffortValue
of_numbers topic pairs numbers recorded = record { topic = topic; pairs = pairs; numbers = numbers; recorded = recorded }

-- the sums of pairs that are picked
abbrev picked : List ℕ → List best_efforts.CountedValue → best_efforts.BestEffortValue
picked topic counted = of_numbers topic (length counted) (sum_by (λ (one : best_efforts.CountedValue). one.recorded.numbers) counted) (sum_by (λ (one : best_efforts.CountedValue). one.recorded.recorded) counted)

sum_is : (counted : List best_efforts.CountedValue) (topic : List ℕ) → best_efforts.sum_of counted topic ≡ picked topic (filter (best_efforts.is_of topic) counted)
sum_is counted topic =
    ap (λ n. of_numbers topic n (sum_by (λ (one : best_efforts.CountedValue). one.recorded.numbers) (filter (best_efforts.is_of topic) counted)) (sum_by (λ (one : best_efforts.CountedValue). one.recorded.recorded) (filter (best_efforts.is_of topic) counted)))
    (sym (length-filter (best_efforts.is_of topic) counted))

sum_same : (counted others : List best_efforts.CountedValue) (topic : List ℕ) → filter (best_efforts.is_of topic) counted ≡ filter (best_efforts.is_of topic) others → best_efforts.sum_of counted topic ≡ best_efforts.sum_of others topic
sum_same counted others topic same = sum_is counted topic ∙ ap (picked topic) same ∙ sym (sum_is others topic)

-- ---- one sum after another

-- the sums from one on, behind which these pairs come
pub run : best_efforts.BestEffortValue → List best_efforts.CountedValue → List best_efforts.BestEffortValue
run sum [] = sum ∷ []
run sum (one ∷ counted) = if best_efforts.is_of sum.topic one then run (best_efforts.with_counted sum one) counted else sum ∷ run (best_efforts.alone one) counted

run_is : (front : List best_efforts.BestEffortValue) (sum : best_efforts.BestEffortValue) (counted : List best_efforts.CountedValue) → fold best_efforts.added_to (front ++ sum ∷ []) counted ≡ front ++ run sum counted
unfolding run
run_is front sum [] = refl
run_is front sum (one ∷ counted) =
    ap (λ sums. fold best_efforts.added_to sums counted) (added_at front sum one) ∙ by (best_efforts.is_of sum.topic one) (λ front sum. run_is front sum counted)
  where
    by : (same : Bool) → ((front : List best_efforts.BestEffortValue) (sum : best_efforts.BestEffortValue) → fold best_efforts.added_to (front ++ sum ∷ []) counted ≡ front ++ run sum counted)
        → fold best_efforts.added_to (front ++ behind same sum one) counted ≡ front ++ (if same then run (best_efforts.with_counted sum one) counted else sum ∷ run (best_efforts.alone one) counted)
    by true onward = onward front (best_efforts.with_counted sum one)
    by false onward =
        ap (λ sums. fold best_efforts.added_to sums counted) (sym (append_assoc front (sum ∷ []) (best_efforts.alone one ∷ []))) ∙ onward (front ++ sum ∷ []) (best_efforts.alone one)
        ∙ append_assoc front (sum ∷ []) (run (best_efforts.alone one) counted)

-- what is so of the topics of the first sum and of all pairs is so of each sum's
run_all : (P : List ℕ → Type 0) (sum : best_efforts.BestEffortValue) (counted : List best_efforts.CountedValue) → P sum.topic → AllByRecursion (λ one. P one.topic) counted → AllByRecursion (λ s. P s.topic) (run sum counted)
unfolding run
run_all P sum [] here all = (here, tt)
run_all P sum (one ∷ counted) here all = by (best_efforts.is_of sum.topic one) (λ sum here. run_all P sum counted here all.1)
  where
    by : (same : Bool) → ((sum : best_efforts.BestEffortValue) → P sum.topic → AllByRecursion (λ s. P s.topic) (run sum counted))
        → AllByRecursion (λ s. P s.topic) (if same then run (best_efforts.with_counted sum one) counted else sum ∷ run (best_efforts.alone one) counted)
    by true onward = onward (best_efforts.with_counted sum one) here
    by false onward = (here, onward (best_efforts.alone one) all.0)

mapped : {X Y : Type 0} (f : X → Y) (P : Y → Type 0) (xs : List X) → AllByRecursion (λ x. P (f x)) xs → AllByRecursion P (map f xs)
mapped f P [] all = tt
mapped f P (x ∷ xs) all = (all.0, mapped f P xs all.1)

both : {X : Type 0} (P Q R : X → Type 0) → ((x : X) → P x → Q x → R x) → (xs : List X) → AllByRecursion P xs → AllByRecursion Q xs → AllByRecursion R xs
both P Q R f [] p q = tt
both P Q R f (x ∷ xs) p q = (f x p.0 q.0, both P Q R f xs p.1 q.1)

-- ---- they are in order

sorted_nil : IsStrictlySortedBy topic_cmp []
unfolding IsStrictlySortedBy
sorted_nil = tt

sorted_cons : (topic : List ℕ) (topics : List (List ℕ)) → AllByRecursion (λ other. topic_cmp topic other ≡ Less) topics → IsStrictlySortedBy topic_cmp topics → IsStrictlySortedBy topic_cmp (topic ∷ topics)
unfolding IsStrictlySortedBy
sorted_cons topic topics all sorted = (all, sorted)

-- where the next pair is of the topic of the sum, the topics go on from there
goes_on : (topic : List ℕ) (one : best_efforts.CountedValue) (counted : List best_efforts.CountedValue) → best_efforts.is_of topic one ≡ true → AreRising one.topic counted → AreRising topic counted
goes_on topic one counted same up = subst (λ t. AreRising t counted) ((bytes_eq-Decides one.topic topic).0 same) up

run_sorted : (sum : best_efforts.BestEffortValue) (counted : List best_efforts.CountedValue) → AreRising sum.topic counted → IsStrictlySortedBy topic_cmp (map (λ (s : best_efforts.BestEffortValue). s.topic) (run sum counted))
unfolding run
run_sorted sum [] up = sorted_cons sum.topic [] tt sorted_nil
run_sorted sum (one ∷ counted) up = by (best_efforts.is_of sum.topic one) refl (λ sum up. run_sorted sum counted up)
  where
    by : (same : Bool) → best_efforts.is_of sum.topic one ≡ same → ((sum : best_efforts.BestEffortValue) → AreRising sum.topic counted → IsStrictlySortedBy topic_cmp (map (λ (s : best_efforts.BestEffortValue). s.topic) (run sum counted)))
        → IsStrictlySortedBy topic_cmp (map (λ (s : best_efforts.BestEffortValue). s.topic) (if same then run (best_efforts.with_counted sum one) counted else sum ∷ run (best_efforts.alone one) counted))
    by true is onward = onward (best_efforts.with_counted sum one) (goes_on sum.topic one counted is up.1)
    by false is onward =
        let next = behind_if sum.topic one.topic up.0 is in
        sorted_cons sum.topic (map (λ (s : best_efforts.BestEffortValue). s.topic) (run (best_efforts.alone one) counted))
        (mapped (λ (s : best_efforts.BestEffortValue). s.topic) (λ topic. topic_cmp sum.topic topic ≡ Less) (run (best_efforts.alone one) counted)
        (run_all (λ topic. topic_cmp sum.topic topic ≡ Less) (best_efforts.alone one) counted next (all_behind sum.topic one.topic counted next up.1)))
        (onward (best_efforts.alone one) up.1)

-- ---- they are the sums

-- the pairs behind which a run begins are all of the topic of its first sum, which is theirs
record IsBegun (before : List best_efforts.CountedValue) (sum : best_efforts.BestEffortValue) : Type 0 where
  is_sum : sum ≡ best_efforts.sum_of before sum.topic
  others : (topic : List ℕ) → topic_cmp sum.topic topic ≡ Less → filter (best_efforts.is_of topic) before ≡ []

sums_are : (topic : List ℕ) (pairs numbers recorded pairs' numbers' recorded' : ℕ) → pairs ≡ pairs' → numbers ≡ numbers' → recorded ≡ recorded'
    → of_numbers topic pairs numbers recorded ≡ of_numbers topic pairs' numbers' recorded'
sums_are topic pairs numbers recorded pairs' numbers' recorded' p n r = λ i. of_numbers topic (p i) (n i) (r i)

picked_more : (topic : List ℕ) (counted : List best_efforts.CountedValue) (one : best_efforts.CountedValue) → picked topic (counted ++ one ∷ []) ≡ best_efforts.with_counted (picked topic counted) one
picked_more topic counted one =
    sums_are topic _ _ _ _ _ _ (length_push counted one) (sum_by_push (λ (one : best_efforts.CountedValue). one.recorded.numbers) counted one) (sum_by_push (λ (one : best_efforts.CountedValue). one.recorded.recorded) counted one)

begun_more : (before : List best_efforts.CountedValue) (sum : best_efforts.BestEffortValue) (one : best_efforts.CountedValue) → IsBegun before sum → best_efforts.is_of sum.topic one ≡ true → IsBegun (before ++ one ∷ []) (best_efforts.with_counted sum one)
begun_more before sum one begun is =
    let kept : filter (best_efforts.is_of sum.topic) (before ++ one ∷ []) ≡ filter (best_efforts.is_of sum.topic) before ++ one ∷ [] =
    filter-append (best_efforts.is_of sum.topic) before (one ∷ []) ∙ ap (λ b. filter (best_efforts.is_of sum.topic) before ++ cond b (one ∷ []) []) is in
    record {
      is_sum = ap (λ s. best_efforts.with_counted s one) (begun.is_sum ∙ sum_is before sum.topic)
          ∙ sym (picked_more sum.topic (filter (best_efforts.is_of sum.topic) before) one)
          ∙ ap (picked sum.topic) (sym kept) ∙ sym (sum_is (before ++ one ∷ []) sum.topic);
      others = λ topic less.
          let same : one.topic ≡ sum.topic = (bytes_eq-Decides one.topic sum.topic).0 is in
          let other : best_efforts.is_of topic one ≡ false = ap (λ t. bytes_eq t topic) same ∙ (differ_if sum.topic topic less).0 in
          filter-append (best_efforts.is_of topic) before (one ∷ []) ∙ ap (λ xs. xs ++ filter (best_efforts.is_of topic) (one ∷ [])) (begun.others topic less)
          ∙ ap (λ b. cond b (one ∷ []) []) other;
    }

begun_alone : (one : best_efforts.CountedValue) → IsBegun (one ∷ []) (best_efforts.alone one)
begun_alone one =
    let itself : best_efforts.is_of one.topic one ≡ true = (bytes_eq-Decides one.topic one.topic).1 refl in
    record {
      is_sum = sym (picked_more one.topic [] one) ∙ ap (picked one.topic) (sym (ap (λ b. cond b (one ∷ []) []) itself)) ∙ sym (sum_is (one ∷ []) one.topic);
      others = λ topic less. ap (λ b. cond b (one ∷ []) []) (differ_if one.topic topic less).0;
    }

-- behind pairs of smaller topics, nothing is added to their sums
sum_ends : (before : List best_efforts.CountedValue) (sum : best_efforts.BestEffortValue) (counted : List best_efforts.CountedValue) → IsBegun before sum → AllByRecursion (λ one. topic_cmp sum.topic one.topic ≡ Less) counted
    → sum ≡ best_efforts.sum_of (before ++ counted) sum.topic
sum_ends before sum counted begun all =
    begun.is_sum
    ∙ sum_same before (before ++ counted) sum.topic
    (sym (filter-append (best_efforts.is_of sum.topic) before counted ∙ ap (λ xs. filter (best_efforts.is_of sum.topic) before ++ xs) (none_of sum.topic counted all) ∙ append-nil (filter (best_efforts.is_of sum.topic) before)))

-- and their pairs add nothing to the sums of other topics
sum_later : (before : List best_efforts.CountedValue) (sum : best_efforts.BestEffortValue) (counted : List best_efforts.CountedValue) (topic : List ℕ) → IsBegun before sum → topic_cmp sum.topic topic ≡ Less
    → best_efforts.sum_of counted topic ≡ best_efforts.sum_of (before ++ counted) topic
sum_later before sum counted topic begun less =
    sum_same counted (before ++ counted) topic (sym (filter-append (best_efforts.is_of topic) before counted ∙ ap (λ xs. xs ++ filter (best_efforts.is_of topic) counted) (begun.others topic less)))

run_sums : (before : List best_efforts.CountedValue) (sum : best_efforts.BestEffortValue) (counted : List best_efforts.CountedValue) → IsBegun before sum → AreRising sum.topic counted
    → AllByRecursion (λ s. s ≡ best_efforts.sum_of (before ++ counted) s.topic) (run sum counted)
unfolding run
run_sums before sum [] begun up = (sum_ends before sum [] begun tt, tt)
run_sums before sum (one ∷ counted) begun up = by (best_efforts.is_of sum.topic one) refl (λ before sum begun up. run_sums before sum counted begun up)
  where
    by : (same : Bool) → best_efforts.is_of sum.topic one ≡ same
        → ((before : List best_efforts.CountedValue) (sum : best_efforts.BestEffortValue) → IsBegun before sum → AreRising sum.topic counted → AllByRecursion (λ s. s ≡ best_efforts.sum_of (before ++ counted) s.topic) (run sum counted))
        → AllByRecursion (λ s. s ≡ best_efforts.sum_of (before ++ one ∷ counted) s.topic) (if same then run (best_efforts.with_counted sum one) counted else sum ∷ run (best_efforts.alone one) counted)
    by true is onward =
        subst (λ all. AllByRecursion (λ (s : best_efforts.BestEffortValue). s ≡ best_efforts.sum_of all s.topic) (run (best_efforts.with_counted sum one) counted)) (append_assoc before (one ∷ []) counted)
        (onward (before ++ one ∷ []) (best_efforts.with_counted sum one) (begun_more before sum one begun is) (goes_on sum.topic one counted is up.1))
    by false is onward =
        let next = behind_if sum.topic one.topic up.0 is in
        let rest = all_behind sum.topic one.topic counted next up.1 in (
          sum_ends before sum (one ∷ counted) begun (next, rest),
          both (λ (s : best_efforts.BestEffortValue). s ≡ best_efforts.sum_of (one ∷ counted) s.topic) (λ s. topic_cmp sum.topic s.topic ≡ Less) (λ s. s ≡ best_efforts.sum_of (before ++ one ∷ counted) s.topic)
              (λ s is less. is ∙ sum_later before sum (one ∷ counted) s.topic begun less) (run (best_efforts.alone one) counted)
              (onward (one ∷ []) (best_efforts.alone one) (begun_alone one) up.1)
              (run_all (λ topic. topic_cmp sum.topic topic ≡ Less) (best_efforts.alone one) counted next rest),
        )

-- ---- they have the topics of the pairs

-- the topics of sums, and of pairs
abbrev topics_of : List best_efforts.BestEffortValue → List (List ℕ)
topics_of sums = map (λ (sum : best_efforts.BestEffortValue). sum.topic) sums

abbrev topics_in : List best_efforts.CountedValue → List (List ℕ)
topics_in counted = map (λ (one : best_efforts.CountedValue). one.topic) counted

run_from : (sum : best_efforts.BestEffortValue) (counted : List best_efforts.CountedValue) (topic : List ℕ) → Contains (topics_of (run sum counted)) topic → Contains (sum.topic ∷ topics_in counted) topic
unfolding run
run_from sum [] topic among = among
run_from sum (one ∷ counted) topic among = by (best_efforts.is_of sum.topic one) (λ sum among. run_from sum counted topic among) among
  where
    by : (same : Bool) → ((sum : best_efforts.BestEffortValue) → Contains (topics_of (run sum counted)) topic → Contains (sum.topic ∷ topics_in counted) topic)
        → Contains (topics_of (if same then run (best_efforts.with_counted sum one) counted else sum ∷ run (best_efforts.alone one) counted)) topic → Contains (sum.topic ∷ topics_in (one ∷ counted)) topic
    by true onward among = elim (contains_cases sum.topic (topics_in counted) topic (onward (best_efforts.with_counted sum one) among)) [
      | inl here ↦ subst (Contains (sum.topic ∷ topics_in (one ∷ counted))) here (contains_head sum.topic (topics_in (one ∷ counted)))
      | inr there ↦ contains_tail sum.topic (topics_in (one ∷ counted)) topic (contains_tail one.topic (topics_in counted) topic there)
    ]
    by false onward among = elim (contains_cases sum.topic (topics_of (run (best_efforts.alone one) counted)) topic among) [
      | inl here ↦ subst (Contains (sum.topic ∷ topics_in (one ∷ counted))) here (contains_head sum.topic (topics_in (one ∷ counted)))
      | inr there ↦ contains_tail sum.topic (topics_in (one ∷ counted)) topic (onward (best_efforts.alone one) there)
    ]

run_into : (sum : best_efforts.BestEffortValue) (counted : List best_efforts.CountedValue) (topic : List ℕ) → Contains (sum.topic ∷ topics_in counted) topic → Contains (topics_of (run sum counted)) topic
unfolding run
run_into sum [] topic among = among
run_into sum (one ∷ counted) topic among = by (best_efforts.is_of sum.topic one) refl (λ sum among. run_into sum counted topic among) (contains_cases sum.topic (topics_in (one ∷ counted)) topic among)
  where
    by : (same : Bool) → best_efforts.is_of sum.topic one ≡ same → ((sum : best_efforts.BestEffortValue) → Contains (sum.topic ∷ topics_in counted) topic → Contains (topics_of (run sum counted)) topic)
        → (sum.topic ≡ topic) ⊎ Contains (topics_in (one ∷ counted)) topic → Contains (topics_of (if same then run (best_efforts.with_counted sum one) counted else sum ∷ run (best_efforts.alone one) counted)) topic
    by true is onward (inl here) = onward (best_efforts.with_counted sum one) (subst (Contains (sum.topic ∷ topics_in counted)) here (contains_head sum.topic (topics_in counted)))
    by true is onward (inr there) =
        onward (best_efforts.with_counted sum one) (subst (λ t. Contains (t ∷ topics_in counted) topic) ((bytes_eq-Decides one.topic sum.topic).0 is) there)
    by false is onward (inl here) =
        subst (Contains (sum.topic ∷ topics_of (run (best_efforts.alone one) counted))) here (contains_head sum.topic (topics_of (run (best_efforts.alone one) counted)))
    by false is onward (inr there) = contains_tail sum.topic (topics_of (run (best_efforts.alone one) counted)) topic (onward (best_efforts.alone one) there)

-- ---- all of it

-- pairs whose topics do not fall
abbrev pub AreAllRising : List best_efforts.CountedValue → Type 0
AreAllRising [] = Unit {0}
AreAllRising (one ∷ counted) = AreRising one.topic counted

-- one pair after another
abbrev pub gathered : List best_efforts.CountedValue → List best_efforts.BestEffortValue
gathered counted = fold best_efforts.added_to [] counted

pub gathered_are : (counted : List best_efforts.CountedValue) → AreAllRising counted → best_efforts.AreSumsOf counted (gathered counted)
gathered_are [] up = record { in_order = sorted_nil; each = All-nil (λ (sum : best_efforts.BestEffortValue). sum ≡ best_efforts.sum_of [] sum.topic); topics = λ topic. (λ among. among, λ among. among) }
gathered_are (one ∷ counted) up =
    subst (best_efforts.AreSumsOf (one ∷ counted)) (sym (run_is [] (best_efforts.alone one) counted))
    (record {
      in_order = run_sorted (best_efforts.alone one) counted up;
      each = All-from_recursion (λ (sum : best_efforts.BestEffortValue). sum ≡ best_efforts.sum_of (one ∷ counted) sum.topic) (run (best_efforts.alone one) counted) (run_sums (one ∷ []) (best_efforts.alone one) counted (begun_alone one) up);
      topics = λ topic. (run_from (best_efforts.alone one) counted topic, run_into (best_efforts.alone one) counted topic);
    })

-- ---- sorted pairs

rises : (one : Counted) (items : List Counted) → IsSortedBy (λ a b. is_lt (topic_cmp a.topic.now b.topic.now)) (one ∷ items) → AreRising one.topic.now (map best_efforts.counted_value items)
rises one [] sorted = tt
rises one (next ∷ items) sorted = (
  sorted 0 one (omega arith) (omega arith),
  rises next items (λ k d low in'.
      let at : suc k + 1 ≡ suc (k + 1) = omega arith in
      subst (λ n. is_lt (topic_cmp (get_or (one ∷ next ∷ items) n d).topic.now (get_or (next ∷ items) k d).topic.now) ≡ false) at (sorted (suc k) d (omega arith) (omega arith))),
)

pub rises_from : (items : List Counted) → IsSortedBy (λ a b. is_lt (topic_cmp a.topic.now b.topic.now)) items → AreAllRising (map best_efforts.counted_value items)
rises_from [] sorted = tt
rises_from (one ∷ items) sorted = rises one items sorted

-- ---- pairs in another order have the same sums

sum_filter : (f : best_efforts.CountedValue → ℕ) (test : best_efforts.CountedValue → Bool) (counted : List best_efforts.CountedValue) → sum_by f (filter test counted) ≡ sum_by (λ (one : best_efforts.CountedValue). cond (test one) (f one) 0) counted
sum_filter f test [] = refl
sum_filter f test (one ∷ counted) =
    by (test one) ∙ ap (λ n. cond (test one) (f one) 0 + n) (sum_filter f test counted) ∙ sym (sum_by-cons (λ (one : best_efforts.CountedValue). cond (test one) (f one) 0) one counted)
  where
    by : (passes : Bool) → sum_by f (cond passes (one ∷ filter test counted) (filter test counted)) ≡ cond passes (f one) 0 + sum_by f (filter test counted)
    by true = sum_by-cons f one (filter test counted)
    by false = omega arith

pub sum_moved : (counted others : List best_efforts.CountedValue) (topic : List ℕ) → IsPermutation counted others → best_efforts.sum_of others topic ≡ best_efforts.sum_of counted topic
sum_moved counted others topic moved =
    sums_are topic _ _ _ _ _ _ (sum_by-IsPermutation (λ (one : best_efforts.CountedValue). cond (best_efforts.is_of topic one) 1 0) counted others moved)
    (sum_filter (λ (one : best_efforts.CountedValue). one.recorded.numbers) (best_efforts.is_of topic) others ∙ sum_by-IsPermutation (λ (one : best_efforts.CountedValue). cond (best_efforts.is_of topic one) one.recorded.numbers 0) counted others moved
    ∙ sym (sum_filter (λ (one : best_efforts.CountedValue). one.recorded.numbers) (best_efforts.is_of topic) counted))
    (sum_filter (λ (one : best_efforts.CountedValue). one.recorded.recorded) (best_efforts.is_of topic) others ∙ sum_by-IsPermutation (λ (one : best_efforts.CountedValue). cond (best_efforts.is_of topic one) one.recorded.recorded 0) counted others moved
    ∙ sym (sum_filter (λ (one : best_efforts.CountedValue). one.recorded.recorded) (best_efforts.is_of topic) counted))

pub sums_moved : (counted others : List best_efforts.CountedValue) (sums : List best_efforts.BestEffortValue) → IsPermutation counted others → best_efforts.AreSumsOf others sums → best_efforts.AreSumsOf counted sums
sums_moved counted others sums moved are =
    let topics = IsPermutation-map (λ (one : best_efforts.CountedValue). one.topic) counted others moved in
    record {
      in_order = are.in_order;
      each = All-weaker (λ (sum : best_efforts.BestEffortValue). sum ≡ best_efforts.sum_of others sum.topic) (λ sum. sum ≡ best_efforts.sum_of counted sum.topic) (λ sum is. is ∙ sum_moved counted others sum.topic moved) sums are.each;
      topics = λ topic. (
        λ among. Contains-permutation (topics_in others) (topics_in counted) topic (IsPermutation-sym (topics_in counted) (topics_in others) topics) ((are.topics topic).0 among),
        λ among. (are.topics topic).1 (Contains-permutation (topics_in counted) (topics_in others) topic topics among),
      );
    }

-- ---- the loop over sorted pairs

pub gathered_more : (pairs : List Counted) (i : ℕ) (d : Counted) (sums more : List best_efforts.BestEffortValue) → i < length pairs → sums ≡ gathered (map best_efforts.counted_value (take i pairs))
    → more ≡ best_efforts.added_to sums (best_efforts.counted_value (get_or pairs i d)) → more ≡ gathered (map best_efforts.counted_value (take (i + 1) pairs))
gathered_more pairs i d sums more within so_far is =
    is ∙ ap (λ sums. best_efforts.added_to sums (best_efforts.counted_value (get_or pairs i d))) so_far ∙ sym (fold_push best_efforts.added_to [] (map best_efforts.counted_value (take i pairs)) (best_efforts.counted_value (get_or pairs i d)))
    ∙ ap gathered (sym (map_more best_efforts.counted_value pairs i d within))

pub sorted_sums : (before sorted : List Counted) (sums : List best_efforts.BestEffortValue) → IsPermutation before sorted → IsSortedBy (λ a b. is_lt (topic_cmp a.topic.now b.topic.now)) sorted
    → sums ≡ gathered (map best_efforts.counted_value sorted) → best_efforts.AreSumsOf (map best_efforts.counted_value before) sums
sorted_sums before sorted sums moved rising is =
    sums_moved (map best_efforts.counted_value before) (map best_efforts.counted_value sorted) sums (IsPermutation-map best_efforts.counted_value before sorted moved)
    (subst (best_efforts.AreSumsOf (map best_efforts.counted_value sorted)) (sym is) (gathered_are (map best_efforts.counted_value sorted) (rises_from sorted rising)))
