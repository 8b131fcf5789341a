-- As many fragments as a sample has are needed for it.
use Rattle.std.proofs.Common.{◌≡◌, ℕ, zero, suc, ◌+◌, ◌<◌, ◌≤◌, cond, nat_le, List, [], ◌∷◌, length, map, Option, Some, None, slice_get, refl, sym, ap, subst, arith, inl, inr}
use Rattle.std.specs.Prelude.{Contains}
use Rattle.std.specs.List.{cons_option, filter_map, find}
use Rattle.std.proofs.lemmas.Bool.Decides.{nat_tests}
use Rattle.std.proofs.lemmas.Option.{slice_get_cases}
use Rattle.rtps_audit.proofs.Offered.{contains_cases, contains_none}
use Rattle.rtps_fragments.specs.FragmentDelivery as fragment_delivery
use Rattle.rtps_wire.specs.declared.data_frag.Shape.{Shape}
use Rattle.rtps_wire.specs.DataFrag as data_frag
use Rattle.rtps_fragments.specs.Laws as laws
use Rattle.rtps_fragments.specs.Samples as samples
use Rattle.rtps_fragments.proofs.SampleLemmas.{firsts_get}
use Rattle.rtps_fragments.proofs.Variants.{first_is_there}

-- how many came for fragments up to this one
abbrev up_to : ℕ → List (ℕ × List ℕ) → ℕ
up_to k [] = 0
up_to k (one ∷ rest) = cond (nat_le one.0 k) 1 0 + up_to k rest

no_fewer : (i k : ℕ) → cond (nat_le i k) 1 0 ≤ cond (nat_le i (suc k)) 1 0
no_fewer i k = grind (arith, nat_tests)

one_more : (k : ℕ) → cond (nat_le (suc k) k) 1 0 + 1 ≤ cond (nat_le (suc k) (suc k)) 1 0
one_more k = grind (arith, nat_tests)

at_most_one : (i k : ℕ) → cond (nat_le i k) 1 0 ≤ 1
at_most_one i k = grind (arith, nat_tests)

up_to_grows : (k : ℕ) (came : List (ℕ × List ℕ)) → up_to k came ≤ up_to (suc k) came
up_to_grows k [] = omega arith
up_to_grows k (one ∷ rest) = let first = no_fewer one.0 k in let others = up_to_grows k rest in omega arith

up_to_next : (k : ℕ) (octets : List ℕ) (came : List (ℕ × List ℕ)) → Contains came (suc k, octets) → up_to k came + 1 ≤ up_to (suc k) came
up_to_next k octets [] among = absurd (contains_none (suc k, octets) among)
up_to_next k octets (one ∷ rest) among = elim (contains_cases one rest (suc k, octets) among) [
  | inl here ↦
      let index : one.0 ≡ suc k = ap (λ (p : ℕ × List ℕ). p.0) here in
      let first = subst (λ i. cond (nat_le i k) 1 0 + 1 ≤ cond (nat_le i (suc k)) 1 0) (sym index) (one_more k) in
      let others = up_to_grows k rest in
      omega arith
  | inr there ↦ let first = no_fewer one.0 k in let others = up_to_next k octets rest there in omega arith
]

up_to_all : (k : ℕ) (came : List (ℕ × List ℕ)) → up_to k came ≤ length came
up_to_all k [] = omega arith
up_to_all k (one ∷ rest) = let first = at_most_one one.0 k in let others = up_to_all k rest in omega arith

-- where each fragment up to this one came, as many came
enough : (came : List (ℕ × List ℕ)) (k : ℕ) → ((i : ℕ) → i < k → (octets : List ℕ) × Contains came (suc i, octets)) → k ≤ up_to k came
enough came zero each = omega arith
enough came (suc k) each =
    let before = enough came k (λ i lt. each i (omega arith)) in
    let (octets, among) = each k (omega arith) in
    let next = up_to_next k octets came among in
    omega arith

few_are_none : (last : ℕ) (came : List (ℕ × List ℕ)) → length came < last → samples.samples_of last came ≡ []
few_are_none last came few = by (samples.firsts_of came last) refl
  where
    by : (o : Option (List (List ℕ))) → samples.firsts_of came last ≡ o → samples.samples_by (samples.firsts_of came last) (find (samples.is_other came) came) ≡ []
    by None e = ap (λ o. samples.samples_by o (find (samples.is_other came) came)) e
    by (Some parts) e = absurd (too_many (firsts_get came last parts e).0 (firsts_get came last parts e).2)
      where
        too_many : length parts ≡ last → ((i : ℕ) (octets : List ℕ) → slice_get parts i ≡ Some octets → samples.first_of came (suc i) ≡ Some octets) → ⊥
        too_many count gets =
            let all = enough came last (λ i lt. elim (slice_get_cases parts i).1 [
              | inl found ↦ (found.0, first_is_there came (suc i) found.0 (gets i found.0 found.2))
              | inr past ↦ absurd (let le = past.0 in omega arith)
            ]) in
            let most = up_to_all last came in
            omega arith

came_fewer : (n : ℕ) (shape : Shape) (fragments : List fragment_delivery.Fragment) → length (filter_map (samples.came_of n shape) fragments) ≤ length fragments
came_fewer n shape [] = omega arith
came_fewer n shape (f ∷ fragments) = by (samples.came_of n shape f) (came_fewer n shape fragments)
  where
    by : (o : Option (ℕ × List ℕ)) → length (filter_map (samples.came_of n shape) fragments) ≤ length fragments → length (cons_option o (filter_map (samples.came_of n shape) fragments)) ≤ suc (length fragments)
    by None rest = omega arith
    by (Some one) rest = omega arith

pub few_fragments_make_no_sample : laws.FewFragmentsMakeNoSample
few_fragments_make_no_sample n shape fragments few =
    let fewer = came_fewer n shape fragments in
    ap (map (fragment_delivery.payload_by shape)) (few_are_none (data_frag.last_fragment shape) (filter_map (samples.came_of n shape) fragments) (omega arith))
