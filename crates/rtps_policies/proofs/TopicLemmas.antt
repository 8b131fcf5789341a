-- The readers of one topic stand together among readers that are sorted by topic.
use Rattle.std.proofs.Common.{◌≡◌, ◌≤◌, ◌<◌, ◌+◌, ℕ, Bool, true, false, ltb, List, [], ◌∷◌, ◌++◌, length, take, drop, filter, get_or, refl, sym, ◌∙◌, ap, arith, append-nil}
use Rattle.std.specs.Cmp.Lexicographic.{slice_cmp}
use Rattle.std.specs.List.{All, AllWithin}
use Rattle.std.specs.List.Sorted.{IsNonDecreasingBy, IsPartitionPoint, IsPartitionedBy}
use Rattle.std.specs.Ordering.{is_eq, is_le, is_lt, nat_cmp, ordering_index}
use Rattle.std.specs.declared.cmp.Ordering.{Ordering}
use Rattle.std.specs.declared.cmp.Ordering.TheVariants.{Less, Equal, Greater}
use Rattle.std.proofs.lemmas.Cmp.{nat_list_cmp_total}
use Rattle.std.proofs.lemmas.List.{get_or-drop, get_or-take, length-drop, take-append-drop, length-take}
use Rattle.std.proofs.lemmas.List.Elements.{All-head, All-tail, All-take, All-weaker, filter-append}
use Rattle.std.proofs.lemmas.List.Sorted.{IsNonDecreasingBy-drop, IsPartitionedBy-ltb, searchable_from_sorted}
use Rattle.rtps_policies.specs.TopicReaders as topic_readers
use Rattle.rtps_policies.specs.declared.fitting.Profile.{Profile}

pub filter_none : {X : Type 0} (test : X → Bool) (xs : List X) → All (λ x. test x ≡ false) xs → filter test xs ≡ []
filter_none test [] h = refl
filter_none test (x ∷ xs) h = rw (All-head (λ x. test x ≡ false) x xs h) (filter_none test xs (All-tail (λ x. test x ≡ false) x xs h))

pub filter_all : {X : Type 0} (test : X → Bool) (xs : List X) → All (λ x. test x ≡ true) xs → filter test xs ≡ xs
filter_all test [] h = refl
filter_all test (x ∷ xs) h =
    rw (All-head (λ x. test x ≡ true) x xs h) (ap (λ ys. x ∷ ys) (filter_all test xs (All-tail (λ x. test x ≡ true) x xs h)))

-- a filter that keeps a part in the middle
filter_middle : {X : Type 0} (test : X → Bool) (xs ys zs : List X) → All (λ x. test x ≡ false) xs → All (λ x. test x ≡ true) ys → All (λ x. test x ≡ false) zs
    → filter test (xs ++ (ys ++ zs)) ≡ ys ++ []
filter_middle test xs ys zs none all rest =
    rw (filter-append test xs (ys ++ zs), filter-append test ys zs, filter_none test xs none, filter_all test ys all, filter_none test zs rest) refl

-- what holds within a list holds of its front and of its rest
All-front : {X : Type 0} (P : X → Type 0) (xs : List X) (i : ℕ) → i ≤ length xs → AllWithin P xs 0 i → All P (take i xs)
All-front P xs i within h = λ k d lt. let below : k < i = omega (arith, length-take i xs) in rw (get_or-take i xs k d below) (h k d (omega arith) below)

All-rest : {X : Type 0} (P : X → Type 0) (xs : List X) (i : ℕ) → AllWithin P xs i (length xs) → All P (drop i xs)
All-rest P xs i h = λ k d lt. rw (get_or-drop i xs k d) (h (i + k) d (omega arith) (omega (arith, length-drop i xs)))

-- how a reader's topic stands to another
abbrev pub topic_cmp : List ℕ → Profile → Ordering
topic_cmp topic reader = slice_cmp nat_cmp reader.endpoint.topic.now topic

abbrev pub below : List ℕ → Profile → Bool
below topic reader = is_lt (topic_cmp topic reader)

abbrev pub up_to : List ℕ → Profile → Bool
up_to topic reader = is_le (topic_cmp topic reader)

by_rank : (p : Profile → Bool) (n : Profile → ℕ) (t : ℕ) (xs : List Profile) → ((x : Profile) → p x ≡ ltb (n x) t) → IsNonDecreasingBy n xs → IsPartitionedBy p xs
by_rank p n t xs same h = λ i j d le lt e. same (get_or xs i d) ∙ IsPartitionedBy-ltb n xs t h i j d le lt (sym (same (get_or xs j d)) ∙ e)

lt_rank : (o : Ordering) → is_lt o ≡ ltb (ordering_index o) 1
lt_rank Less = refl
lt_rank Equal = refl
lt_rank Greater = refl

le_rank : (o : Ordering) → is_le o ≡ ltb (ordering_index o) 2
le_rank Less = refl
le_rank Equal = refl
le_rank Greater = refl

ranked : (topic : List ℕ) (readers : List Profile) → topic_readers.AreByTopic readers → IsNonDecreasingBy (λ reader. ordering_index (topic_cmp topic reader)) readers
ranked topic readers h = searchable_from_sorted nat_list_cmp_total (λ (reader : Profile). reader.endpoint.topic.now) readers topic h

pub below_partitions : (topic : List ℕ) (readers : List Profile) → topic_readers.AreByTopic readers → IsPartitionedBy (below topic) readers
below_partitions topic readers h = by_rank _ _ 1 readers (λ reader. lt_rank (topic_cmp topic reader)) (ranked topic readers h)

pub upto_partitions : (topic : List ℕ) (readers : List Profile) (start : ℕ) → topic_readers.AreByTopic readers → IsPartitionedBy (up_to topic) (drop start readers)
upto_partitions topic readers start h =
    by_rank _ _ 2 (drop start readers) (λ reader. le_rank (topic_cmp topic reader)) (IsNonDecreasingBy-drop (λ reader. ordering_index (topic_cmp topic reader)) start readers (ranked topic readers h))

lt_is_no_eq : (o : Ordering) → is_lt o ≡ true → is_eq o ≡ false
lt_is_no_eq Less e = refl
lt_is_no_eq Equal e = cc
lt_is_no_eq Greater e = refl

le_no_lt_is_eq : (o : Ordering) → is_le o ≡ true → is_lt o ≡ false → is_eq o ≡ true
le_no_lt_is_eq Less e f = cc
le_no_lt_is_eq Equal e f = refl
le_no_lt_is_eq Greater e f = cc

no_le_is_no_eq : (o : Ordering) → is_le o ≡ false → is_eq o ≡ false
no_le_is_no_eq Less e = cc
no_le_is_no_eq Equal e = cc
no_le_is_no_eq Greater e = refl

All-both : {X : Type 0} (P Q R : X → Type 0) (xs : List X) → ((x : X) → P x → Q x → R x) → All P xs → All Q xs → All R xs
All-both P Q R xs f p q = λ k d lt. f _ (p k d lt) (q k d lt)

-- the readers between the two places
pub one_topic : (topic : List ℕ) (readers : List Profile) (start size : ℕ) → start ≤ length readers → size ≤ length (drop start readers)
    → IsPartitionPoint (λ reader. below topic reader ≡ true) (λ reader. below topic reader ≡ false) readers start
    → IsPartitionPoint (λ reader. up_to topic reader ≡ true) (λ reader. up_to topic reader ≡ false) (drop start readers) size
    → take size (drop start readers) ≡ filter (topic_readers.has_topic topic) readers
one_topic topic readers start size within room first last =
    let behind = drop start readers in
    let front = All-weaker _ (λ reader. topic_readers.has_topic topic reader ≡ false) (λ reader. lt_is_no_eq (topic_cmp topic reader)) (take start readers) (All-front (λ reader. below topic reader ≡ true) readers start within first.0) in
    let upto = All-front (λ reader. up_to topic reader ≡ true) behind size room last.0 in
    let not_below = All-take (λ reader. below topic reader ≡ false) size behind (All-rest (λ reader. below topic reader ≡ false) readers start first.1) in
    let middle = All-both _ _ (λ reader. topic_readers.has_topic topic reader ≡ true) (take size behind) (λ reader. le_no_lt_is_eq (topic_cmp topic reader)) upto not_below in
    let back = All-weaker _ (λ reader. topic_readers.has_topic topic reader ≡ false) (λ reader. no_le_is_no_eq (topic_cmp topic reader)) (drop size behind) (All-rest (λ reader. up_to topic reader ≡ false) behind size last.1) in
    let whole : take start readers ++ (take size behind ++ drop size behind) ≡ readers = rw (take-append-drop size behind) (take-append-drop start readers) in
    sym (ap (filter (topic_readers.has_topic topic)) (sym whole) ∙ filter_middle (topic_readers.has_topic topic) (take start readers) (take size behind) (drop size behind) front middle back ∙ append-nil _)
