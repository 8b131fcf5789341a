-- Lists in order that have the same members are the same, and so are lists that are made of the same keys.
use Rattle.std.proofs.Common.{◌≡◌, ◌↔◌, ◌∙◌, List, [], ◌∷◌, All, Contains, ap, map, refl, sym}
use Rattle.std.specs.BTreeSet.{BTreeSet}
use Rattle.std.specs.Cmp.{IsTotalOrder, both_ways}
use Rattle.std.specs.List.Sorted.{IsStrictlySortedBy}
use Rattle.std.specs.declared.cmp.Ordering.{Ordering}
use Rattle.std.proofs.lemmas.List.Elements.{All-head, All-tail}
use Rattle.std.proofs.lemmas.Map.Lookups.{CmpEqualImpliesEq, btree_set_from_contains}
use Rattle.std.proofs.lemmas.Map.Views.{btree_set_contains_iff}

pub same_members : {K : Type 0} (c : K → K → Ordering) → IsTotalOrder c → CmpEqualImpliesEq c → (xs ys : List K) → IsStrictlySortedBy c xs → IsStrictlySortedBy c ys
    → ((k : K) → Contains xs k ↔ Contains ys k) → xs ≡ ys
same_members {K} c total exact xs ys one other same =
    let some : BTreeSet K = record { keys = xs } in
    let others : BTreeSet K = record { keys = ys } in
    btree_set_from_contains total some others one other
    (λ k. both_ways _ _ (λ has. (btree_set_contains_iff total exact others k).1 ((same k).0 ((btree_set_contains_iff total exact some k).0 has)))
    (λ has. (btree_set_contains_iff total exact some k).1 ((same k).1 ((btree_set_contains_iff total exact others k).0 has))))
    exact

-- each element is what its key makes
made_of_keys : {X K : Type 0} (key : X → K) (made : K → X) (xs : List X) → All (λ x. x ≡ made (key x)) xs → xs ≡ map made (map key xs)
made_of_keys key made [] all = refl
made_of_keys key made (x ∷ xs) all =
    ap (λ first. first ∷ xs) (All-head (λ y. y ≡ made (key y)) x xs all) ∙ ap (λ rest. made (key x) ∷ rest) (made_of_keys key made xs (All-tail (λ y. y ≡ made (key y)) x xs all))

pub same_keys : {X K : Type 0} (key : X → K) (made : K → X) (xs ys : List X) → All (λ x. x ≡ made (key x)) xs → All (λ x. x ≡ made (key x)) ys → map key xs ≡ map key ys → xs ≡ ys
same_keys key made xs ys one other keys = made_of_keys key made xs one ∙ ap (map made) keys ∙ sym (made_of_keys key made ys other)
