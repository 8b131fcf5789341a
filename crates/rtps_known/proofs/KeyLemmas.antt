-- What some key or some entry passes, after one more.
use Rattle.std.proofs.Common.{◌≡◌, ◌∙◌, Bool, true, false, ◌||◌, List, [], ◌∷◌, Some, None, ap, cond, refl, sym}
use Rattle.std.specs.BTreeMap.{insert_entry, is_at}
use Rattle.std.specs.BTreeSet.{insert_key}
use Rattle.std.specs.List.{list_any}
use Rattle.std.specs.Map.{lookup, set_value}
use Rattle.std.specs.Ordering.{is_eq, match_ordering}
use Rattle.std.specs.declared.cmp.Ordering.{Ordering}
use Rattle.std.specs.declared.cmp.Ordering.TheVariants.{Less, Equal, Greater}
use Rattle.std.proofs.lemmas.Map.Lookups.{CmpEqualImpliesEq}
use Rattle.rtps_known.proofs.BoolLemmas.{or_again, or_front, or_join, or_swap}

-- one key more
pub any_key : {K : Type 0} (cmp : K → K → Ordering) → CmpEqualImpliesEq cmp → (test : K → Bool) (ks : List K) (k : K)
    → list_any test (insert_key cmp ks k) ≡ (list_any test ks || test k)
any_key cmp exact test [] k = or_swap (test k) false
any_key cmp exact test (x ∷ xs) k = by (cmp k x) refl (any_key cmp exact test xs k)
  where
    by : (o : Ordering) → cmp k x ≡ o → list_any test (insert_key cmp xs k) ≡ (list_any test xs || test k) → list_any test (match_ordering o (k ∷ x ∷ xs) (x ∷ xs) (x ∷ insert_key cmp xs k)) ≡ (test x || list_any test xs || test k)
    by Less e rest = or_swap (test k) (test x || list_any test xs)
    by Equal e rest = or_again (test x) (list_any test xs) ∙ ap (λ y. test x || list_any test xs || test y) (sym (exact k x e))
    by Greater e rest = ap (λ b. test x || b) rest ∙ or_join (test x) (list_any test xs) (test k)

-- one entry more, of a key that had none
pub any_entry : {K X : Type 0} (cmp : K → K → Ordering) (test : K × X → Bool) (es : List (K × X)) (k : K) (v : X) → lookup (is_at (cmp k)) es ≡ None
    → list_any test (insert_entry cmp es k v) ≡ (list_any test es || test (k, v))
any_entry cmp test [] k v none = or_swap (test (k, v)) false
any_entry {K} {X} cmp test (e ∷ es) k v none = by (cmp k e.0) none (any_entry cmp test es k v)
  where
    by : (o : Ordering) → cond (is_eq o) (Some e.1) (lookup (is_at (cmp k)) es) ≡ None
        → (lookup (is_at (cmp k)) es ≡ None → list_any test (insert_entry cmp es k v) ≡ (list_any test es || test (k, v)))
        → list_any test (match_ordering o ((k, v) ∷ e ∷ es) ((e.0, v) ∷ es) (e ∷ insert_entry cmp es k v)) ≡ (test e || list_any test es || test (k, v))
    by Less absent rest = or_swap (test (k, v)) (test e || list_any test es)
    by Equal absent rest = absurd (let bad = absent in cc)
    by Greater absent rest = ap (λ b. test e || b) (rest absent) ∙ or_join (test e) (list_any test es) (test (k, v))

-- another value at a key, which passes what the old one passes, and more
pub any_value : {K X : Type 0} (at : K → Bool) (test : K × X → Bool) (more : Bool) (es : List (K × X)) (old w : X) → lookup at es ≡ Some old
    → ((k : K) → at k ≡ true → test (k, w) ≡ (test (k, old) || more)) → list_any test (set_value at es w) ≡ (list_any test es || more)
any_value at test more [] old w there wider = absurd (let bad = there in cc)
any_value {K} {X} at test more (e ∷ es) old w there wider = by (at e.0) refl there (λ found. any_value at test more es old w found wider)
  where
    by : (b : Bool) → at e.0 ≡ b → cond b (Some e.1) (lookup at es) ≡ Some old
        → (lookup at es ≡ Some old → list_any test (set_value at es w) ≡ (list_any test es || more))
        → list_any test (cond b ((e.0, w) ∷ es) (e ∷ set_value at es w)) ≡ (test e || list_any test es || more)
    by true here found rest =
        let same : e.1 ≡ old = let f = found in cc in
        ap (λ b. b || list_any test es) (wider e.0 here ∙ ap (λ v. test (e.0, v) || more) (sym same)) ∙ or_front (test (e.0, e.1)) (list_any test es) more
    by false here found rest = ap (λ b. test e || b) (rest found) ∙ or_join (test e) (list_any test es) more
