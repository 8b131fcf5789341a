-- Lists in order: one element more in front, and one list behind another.
use Rattle.std.proofs.Common.{◌≡◌, List, [], ◌∷◌, ◌++◌}
use Rattle.std.specs.List.{AllByRecursion}
use Rattle.std.specs.List.Sorted.{IsStrictlySortedBy}
use Rattle.std.specs.declared.cmp.Ordering.{Ordering}
use Rattle.std.specs.declared.cmp.Ordering.TheVariants.{Less}
use Rattle.std.proofs.lemmas.Map.Keys.{sorted_head, sorted_tail}

pub sorted_nil : {K : Type 0} (c : K → K → Ordering) → IsStrictlySortedBy c []
unfolding IsStrictlySortedBy
sorted_nil c = tt

pub sorted_cons : {K : Type 0} (c : K → K → Ordering) (x : K) (xs : List K) → AllByRecursion (λ y. c x y ≡ Less) xs → IsStrictlySortedBy c xs → IsStrictlySortedBy c (x ∷ xs)
unfolding IsStrictlySortedBy
sorted_cons c x xs h s = (h, s)

pub all_append : {K : Type 0} (P : K → Type 0) (xs ys : List K) → AllByRecursion P xs → AllByRecursion P ys → AllByRecursion P (xs ++ ys)
all_append P [] ys h k = k
all_append P (x ∷ xs) ys h k = (h.0, all_append P xs ys h.1 k)

pub all_weaker : {K : Type 0} (P Q : K → Type 0) → ((x : K) → P x → Q x) → (xs : List K) → AllByRecursion P xs → AllByRecursion Q xs
all_weaker P Q f [] h = tt
all_weaker P Q f (x ∷ xs) h = (f x h.0, all_weaker P Q f xs h.1)

pub sorted_append : {K : Type 0} (c : K → K → Ordering) (xs ys : List K) → IsStrictlySortedBy c xs → IsStrictlySortedBy c ys → AllByRecursion (λ x. AllByRecursion (λ y. c x y ≡ Less) ys) xs
    → IsStrictlySortedBy c (xs ++ ys)
sorted_append c [] ys s t h = t
sorted_append c (x ∷ xs) ys s t h =
    sorted_cons c x (xs ++ ys) (all_append (λ y. c x y ≡ Less) xs ys (sorted_head c x xs s) h.0) (sorted_append c xs ys (sorted_tail c x xs s) t h.1)
