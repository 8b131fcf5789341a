-- Lists in a map, one of which is written back under its key.
use Rattle.std.proofs.Common.{◌≡◌, Bool, true, false, cond, List, [], ◌∷◌, ◌++◌, append-nil, Option, Some, None, IsSome, refl, sym, ap, subst, ◌∙◌}
use Rattle.std.specs.BTreeMap.{BTreeMap, Updates, get, is_at}
use Rattle.std.specs.Cmp.{IsTotalOrder}
use Rattle.std.specs.Global.{Vec}
use Rattle.std.specs.Map.{lookup}
use Rattle.std.specs.Ordering.{is_eq, ordering_reverse}
use Rattle.std.specs.declared.cmp.Ordering.{Ordering}
use Rattle.std.specs.declared.cmp.Ordering.TheVariants.{Less, Equal, Greater}
use Rattle.rtps_audit.specs.Placed as placed

pub equal_of : (order : Ordering) → is_eq order ≡ true → order ≡ Equal
equal_of Less e = cc
equal_of Equal e = refl
equal_of Greater e = cc

is_eq-reversed : (order : Ordering) → is_eq (ordering_reverse order) ≡ is_eq order
is_eq-reversed Less = refl
is_eq-reversed Equal = refl
is_eq-reversed Greater = refl

module _ {K A : Type 0} {cmp : K → K → Ordering} (total : IsTotalOrder cmp) where
  pub found_alike : (x y : K) → cmp x y ≡ Equal → (entries : List (K × A)) → lookup (is_at (cmp x)) entries ≡ lookup (is_at (cmp y)) entries
  found_alike x y e [] = refl
  found_alike x y e (entry ∷ entries) =
      ap (λ order. cond (is_eq order) (Some entry.1) (lookup (is_at (cmp x)) entries)) (total.congr x y entry.0 e)
      ∙ ap (λ found. cond (is_eq (cmp y entry.0)) (Some entry.1) found) (found_alike x y e entries)

  -- what a map has, where a value is written under a key
  pub entry_written : (old new : BTreeMap K A) (key other : K) (value : A) → Updates cmp old new key (Some value) → get cmp new other ≡ cond (is_eq (cmp other key)) (Some value) (get cmp old other)
  entry_written old new key other value updates =
      updates.0 other ∙ ap (λ b. cond b (Some value) (get cmp old other)) (ap is_eq (total.antisymm key other) ∙ is_eq-reversed (cmp other key))

  -- what is seen at a key grows where the value is written under that key
  pub entry_grown : {X : Type 0} (seen : Option A → List X) (old new : BTreeMap K A) (key other : K) (value : A) (added : List X) → Updates cmp old new key (Some value)
      → (is_eq (cmp other key) ≡ true → seen (Some value) ≡ seen (get cmp old key) ++ added) → seen (get cmp new other) ≡ seen (get cmp old other) ++ cond (is_eq (cmp other key)) added []
  entry_grown seen old new key other value added updates grown = by_test (is_eq (cmp other key)) refl
    where
      now : get cmp new other ≡ cond (is_eq (cmp other key)) (Some value) (get cmp old other)
      now = entry_written old new key other value updates

      by_test : (b : Bool) → is_eq (cmp other key) ≡ b → seen (get cmp new other) ≡ seen (get cmp old other) ++ cond b added []
      by_test true e =
          ap seen (now ∙ ap (λ b. cond b (Some value) (get cmp old other)) e) ∙ grown e
          ∙ ap (λ found. seen found ++ added) (sym (found_alike other key (equal_of (cmp other key) e) old.entries))
      by_test false e =
          ap seen (now ∙ ap (λ b. cond b (Some value) (get cmp old other)) e) ∙ sym (append-nil _)

-- the same of lists
pub list_grown : {K V : Type 0} {cmp : K → K → Ordering} (total : IsTotalOrder cmp) {X : Type 0} (seen : List V → List X) (old new : BTreeMap K (Vec V)) (key other : K) (list : Vec V) (added : List X) → Updates cmp old new key (Some list)
    → seen list.items ≡ seen (placed.values_at cmp old key) ++ added → seen (placed.values_at cmp new other) ≡ seen (placed.values_at cmp old other) ++ cond (is_eq (cmp other key)) added []
list_grown total seen old new key other list added updates grown = entry_grown total (λ found. seen (placed.items_or_none found)) old new key other list added updates (λ e. grown)

-- the same, where the list was there
pub list_written : {K V : Type 0} {cmp : K → K → Ordering} (total : IsTotalOrder cmp) {X : Type 0} (seen : List V → List X) (old new : BTreeMap K (Vec V)) (key other : K) (found list : Vec V) (added : List X)
    → (IsSome (get cmp old key) → Updates cmp old new key (Some list)) → get cmp old key ≡ Some found → seen list.items ≡ seen found.items ++ added
    → seen (placed.values_at cmp new other) ≡ seen (placed.values_at cmp old other) ++ cond (is_eq (cmp other key)) added []
list_written total seen old new key other found list added updates there grown =
    list_grown total seen old new key other list added (updates (subst IsSome (sym there) refl)) (grown ∙ ap (λ o. seen (placed.items_or_none o) ++ added) (sym there))

-- and where there was none
pub list_begun : {K V : Type 0} {cmp : K → K → Ordering} (total : IsTotalOrder cmp) {X : Type 0} (seen : List V → List X) (old mid new : BTreeMap K (Vec V)) (key other : K) (list : Vec V) (added : List X)
    → mid ≡ old → Updates cmp mid new key (Some list) → get cmp old key ≡ None → seen list.items ≡ seen [] ++ added
    → seen (placed.values_at cmp new other) ≡ seen (placed.values_at cmp old other) ++ cond (is_eq (cmp other key)) added []
list_begun {cmp = cmp} total seen old mid new key other list added same updates none grown =
    list_grown total seen old new key other list added (subst (λ (m : BTreeMap _ (Vec _)). Updates cmp m new key (Some list)) same updates) (grown ∙ ap (λ o. seen (placed.items_or_none o) ++ added) (sym none))
