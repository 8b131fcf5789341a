-- Where a GUID stands among GUIDs in order.
use Rattle.std.proofs.Common.{◌≡◌, ℕ, ◌+◌, ◌<◌, ◌≤◌, false, List, get_or, length, map, Option, Result, Ok, Err, inl, inr, sym, ap, ◌∙◌, subst, arith}
use Rattle.std.specs.Prelude.{◌==◌}
use Rattle.std.specs.List.Sorted.{IsBinarySearchResult, IsSearchInRange, IsStrictlySortedBy}
use Rattle.std.specs.Result.{result_ok}
use Rattle.std.specs.Ordering.{is_eq, is_lt, ordering_reverse}
use Rattle.std.specs.declared.cmp.Ordering.TheVariants.{Less, Equal, Greater}
use Rattle.std.proofs.lemmas.Bool.{cases_lt}
use Rattle.std.proofs.lemmas.List.{get_or-map, length-map}
use Rattle.std.proofs.lemmas.List.Sorted.{searchable_from_sorted}
use Rattle.std.proofs.lemmas.Map.Keys.{Less-from_sorted}
use Rattle.rtps_ids.specs.declared.identity.Guid.{Guid}
use Rattle.rtps_discovery.specs.GuidOrder.{guid_cmp}
use Rattle.rtps_discovery.proofs.Offered.{guids_total}
use Rattle.rtps_audit.proofs.Offered.{later_place, other_place, same_place}
use Rattle.rtps_passes.specs.Judging as judging
use Rattle.rtps_passes.specs.declared.judged_writer.JudgedWriter.{JudgedWriter}

pub greater : (one other : Guid) → guid_cmp one other ≡ Less → guid_cmp other one ≡ Greater
greater one other less = guids_total.antisymm other one ∙ ap ordering_reverse less

module _ {X : Type 0} (key : X → Guid) (xs : List X) (sorted : IsStrictlySortedBy guid_cmp (map key xs)) where
  -- the first of two keys is below the other
  pub key_below : (i j : ℕ) (d : X) → i < j → j < length xs → guid_cmp (key (get_or xs i d)) (key (get_or xs j d)) ≡ Less
  key_below i j d lt within =
      let long = length-map xs key in
      let first : i < length xs = omega arith in
      let both : j < length (map key xs) = omega (arith, long) in
      subst (λ (a : Guid). guid_cmp a (key (get_or xs j d)) ≡ Less) (get_or-map key xs i d (key d) first)
      (subst (λ (b : Guid). guid_cmp (get_or (map key xs) i (key d)) b ≡ Less) (get_or-map key xs j d (key d) within) (Less-from_sorted guid_cmp (map key xs) i j (key d) sorted lt both))

  -- a key that is equal to a GUID stands at one place
  pub found_at : (guid : Guid) (at : ℕ) → at < length xs → ((d : X) → guid_cmp (key (get_or xs at d)) guid ≡ Equal) → (place : ℕ) (d : X) → place < length xs → is_eq (guid_cmp (key (get_or xs place d)) guid) ≡ (at == place)
  found_at guid at within equal place d lt = elim (cases_lt place at) [
    | inl before ↦ ap is_eq (alike (key (get_or xs place d)) ∙ key_below place at d before within) ∙ sym (other_place place at before)
    | inr ge ↦ elim (cases_lt at place) [
      | inl after ↦ ap is_eq (alike (key (get_or xs place d)) ∙ greater (key (get_or xs at d)) (key (get_or xs place d)) (key_below at place d after lt)) ∙ sym (later_place place at after)
      | inr le ↦
          let e : at ≡ place = omega arith in
          subst (λ (p : ℕ). is_eq (guid_cmp (key (get_or xs p d)) guid) ≡ (at == p)) e (ap is_eq (equal d) ∙ sym (same_place at))
    ]
  ]
    where
      alike : (other : Guid) → guid_cmp other guid ≡ guid_cmp other (key (get_or xs at d))
      alike other = guids_total.antisymm other guid ∙ ap ordering_reverse (sym (guids_total.congr (key (get_or xs at d)) guid other (equal d))) ∙ sym (guids_total.antisymm other (key (get_or xs at d)))

  in_order : (k : ℕ) (d : X) → 0 ≤ k → k + 1 < length xs → is_lt (guid_cmp (key (get_or xs (k + 1) d)) (key (get_or xs k d))) ≡ false
  in_order k d low lt = ap is_lt (greater (key (get_or xs k d)) _ (key_below k (k + 1) d (omega arith) lt))

  -- a binary search finds the place of a GUID
  pub found_place : (guid : Guid) (found : Result ℕ ℕ) → IsSearchInRange found (length xs) → IsBinarySearchResult (λ x. guid_cmp (key x) guid) xs found → (place : ℕ) (d : X) → place < length xs → is_eq (guid_cmp (key (get_or xs place d)) guid) ≡ judging.is_found (result_ok found) place
  found_place guid (Ok at) range equal place d lt = found_at guid at range equal place d lt
  found_place guid (Err at) range parted place d lt =
      let apart = parted (searchable_from_sorted guids_total key xs guid in_order) in
      elim (cases_lt place at) [
        | inl before ↦ ap is_eq (apart.0 place d (omega arith) before)
        | inr ge ↦ ap is_eq (apart.1 place d ge lt)
      ]

-- where a writer is among writers in order
abbrev pub FindsWriter : List JudgedWriter → Guid → Option ℕ → Type 0
FindsWriter writers writer found =
    IsStrictlySortedBy guid_cmp (map (λ (judged : JudgedWriter). judged.writer) writers) → (place : ℕ) (d : JudgedWriter) → place < length writers → is_eq (guid_cmp (get_or writers place d).writer writer) ≡ judging.is_found found place
