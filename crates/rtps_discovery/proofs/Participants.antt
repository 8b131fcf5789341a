-- One participant more.
use Rattle.std.proofs.Common.{◌≡◌, ◌⊎◌, inl, inr, Bool, true, false, cond, List, [], ◌∷◌, ◌++◌, ap, subst, sym, ◌∙◌, refl, Contains}
use Rattle.std.specs.Ordering.{eq_by_cmp}
use Rattle.std.specs.Cmp.{eq_by_cmp_equiv}
use Rattle.std.specs.List.{list_any}
use Rattle.std.specs.List.Sorted.{IsStrictlySortedBy}
use Rattle.std.proofs.lemmas.Map.Views.{Contains-from_any, list_any-from_Contains, tells_apart}
use Rattle.std.proofs.lemmas.List.Elements.{Contains-append_left, Contains-push, Contains-push_cases}
use Rattle.rtps_ids.specs.declared.identity.Guid.{Guid}
use Rattle.rtps_discovery.specs.Directory as directory
use Rattle.rtps_discovery.specs.GuidOrder as guid_order
use Rattle.rtps_discovery.proofs.GuidLaws.{exact_guids, guids_total}

-- whether the GUIDs have this one
abbrev pub has : List Guid → Guid → Bool
has guids guid = list_any (eq_by_cmp guid_order.guid_cmp guid) guids

pub has-Contains : (guids : List Guid) (guid : Guid) → has guids guid ≡ true → Contains guids guid
has-Contains guids guid h = Contains-from_any (tells_apart exact_guids) guid guids h

pub Contains-has : (guids : List Guid) (guid : Guid) → Contains guids guid → has guids guid ≡ true
Contains-has guids guid h = list_any-from_Contains (eq_by_cmp_equiv guids_total) guid guids h

added-backward : (announced old new : List Guid) (guid q : Guid) (same : Bool) → (same ≡ true → guid ≡ q) → has new q ≡ cond same true (has old q)
    → (Contains old q → Contains announced q) → Contains new q → Contains (announced ++ guid ∷ []) q
added-backward announced old new guid q true is_same e h c = subst (λ x. Contains (announced ++ guid ∷ []) x) (is_same refl) (Contains-push announced guid)
added-backward announced old new guid q false is_same e h c =
    Contains-append_left announced (guid ∷ []) q (h (has-Contains old q (sym e ∙ Contains-has new q c)))

cond-true : (b : Bool) (c : Bool) → c ≡ true → cond b true c ≡ true
cond-true true c e = refl
cond-true false c e = e

added-forward : (announced old new : List Guid) (guid q : Guid) → has new q ≡ cond (eq_by_cmp guid_order.guid_cmp guid q) true (has old q)
    → (Contains announced q → Contains old q) → Contains announced q ⊎ (guid ≡ q) → Contains new q
added-forward announced old new guid q e h (inl c) = has-Contains new q (e ∙ cond-true _ _ (Contains-has old q (h c)))
added-forward announced old new guid q e h (inr p) =
    has-Contains new q (e ∙ ap (λ b. cond b true (has old q)) (ap (eq_by_cmp guid_order.guid_cmp guid) (sym p) ∙ (eq_by_cmp_equiv guids_total).refl guid))

pub participant_added : (announced old new : List Guid) (guid : Guid) → IsStrictlySortedBy guid_order.guid_cmp new
    → ((q : Guid) → has new q ≡ cond (eq_by_cmp guid_order.guid_cmp guid q) true (has old q))
    → directory.AreParticipants announced old → directory.AreParticipants (announced ++ guid ∷ []) new
participant_added announced old new guid sorted updates were =
    record {
      in_order = sorted;
      announced_alone = λ q. (
        added-backward announced old new guid q (eq_by_cmp guid_order.guid_cmp guid q) (tells_apart exact_guids guid q) (updates q) (were.announced_alone q).0,
        λ c. added-forward announced old new guid q (updates q) (were.announced_alone q).1 (Contains-push_cases announced guid q c),
      );
    }
