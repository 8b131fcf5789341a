-- One announcement of an endpoint more.
use Rattle.std.proofs.Common.{◌≡◌, ◌≢◌, ◌⊎◌, inl, inr, Bool, true, false, cond, List, [], ◌∷◌, ◌++◌, map, not, Option, Some, None, count_by, filter, length, suc, ap, subst, sym, ◌∙◌, refl, Contains}
use Rattle.std.specs.BTreeMap.{is_at}
use Rattle.std.specs.List.{cons_option}
use Rattle.std.specs.Map.{keys_of, lookup, values_of}
use Rattle.std.specs.Option.{is_none, option_map}
use Rattle.std.specs.Ordering.{eq_by_cmp}
use Rattle.std.specs.Cmp.{eq_by_cmp_equiv}
use Rattle.std.specs.List.Sorted.{IsStrictlySortedBy}
use Rattle.std.proofs.lemmas.Bool.{false≢true}
use Rattle.std.proofs.lemmas.Map.Views.{tells_apart}
use Rattle.std.proofs.lemmas.Map.Entries.{length-keys_of}
use Rattle.std.proofs.lemmas.List.Sums.{length-filter}
use Rattle.std.proofs.lemmas.List.Elements.{Contains-append_left, Contains-push, Contains-push_cases}
use Rattle.rtps_ids.specs.declared.identity.Guid.{Guid}
use Rattle.rtps_discovery.specs.Directory as directory
use Rattle.rtps_discovery.specs.Endpoint as endpoint_spec
use Rattle.rtps_discovery.specs.declared.endpoint.Endpoint.{Endpoint}
use Rattle.rtps_discovery.specs.GuidOrder as guid_order
use Rattle.rtps_discovery.specs.Kept as kept_spec
use Rattle.rtps_discovery.specs.declared.kept.Kept.{Kept}
use Rattle.rtps_discovery.proofs.GuidLaws.{exact_guids, guids_total}

-- a look-up among what the kept entries stand for
pub entry_at-entries_value : (entries : List (Guid × Kept)) (guid : Guid) → directory.entry_at (kept_spec.entries_value entries) guid ≡ option_map kept_spec.kept_value (lookup (is_at (guid_order.guid_cmp guid)) entries)
entry_at-entries_value [] guid = refl
entry_at-entries_value (entry ∷ entries) guid =
    at_test (is_at (guid_order.guid_cmp guid) entry.0) entry.1 (kept_spec.entries_value entries) entries guid (entry_at-entries_value entries guid)
  where
    at_test : (b : Bool) (kept : Kept) (shown : directory.Entries) (entries : List (Guid × Kept)) (guid : Guid) → directory.entry_at shown guid ≡ option_map kept_spec.kept_value (lookup (is_at (guid_order.guid_cmp guid)) entries)
        → cond b (Some (kept_spec.kept_value kept)) (directory.entry_at shown guid) ≡ option_map kept_spec.kept_value (cond b (Some kept) (lookup (is_at (guid_order.guid_cmp guid)) entries))
    at_test true kept shown entries guid h = refl
    at_test false kept shown entries guid h = h

pub keys_of-entries_value : (entries : List (Guid × Kept)) → keys_of (kept_spec.entries_value entries) ≡ keys_of entries
keys_of-entries_value [] = refl
keys_of-entries_value (entry ∷ entries) = ap (λ keys. entry.0 ∷ keys) (keys_of-entries_value entries)

-- one announcement more leaves a disagreement
IsUnsettled-push : (announced : List endpoint_spec.EndpointValue) (endpoint : endpoint_spec.EndpointValue) (guid : Guid) → directory.IsUnsettled announced guid → directory.IsUnsettled (announced ++ endpoint ∷ []) guid
IsUnsettled-push announced endpoint guid h =
    record {
      one = h.one;
      other = h.other;
      one_announced = Contains-append_left announced (endpoint ∷ []) h.one h.one_announced;
      other_announced = Contains-append_left announced (endpoint ∷ []) h.other h.other_announced;
      one_of = h.one_of;
      other_of = h.other_of;
      differ = h.differ;
    }

-- an endpoint stays settled where what is announced of its GUID is the same
IsSettled-push : (announced : List endpoint_spec.EndpointValue) (endpoint kept : endpoint_spec.EndpointValue) → directory.IsSettled announced kept → (endpoint.guid ≡ kept.guid → endpoint ≡ kept) → directory.IsSettled (announced ++ endpoint ∷ []) kept
IsSettled-push announced endpoint kept h same =
    record {
      is_announced = Contains-append_left announced (endpoint ∷ []) kept h.is_announced;
      alone = λ other c g. alone other g (Contains-push_cases announced endpoint other c);
    }
  where
    alone : (other : endpoint_spec.EndpointValue) → other.guid ≡ kept.guid → Contains announced other ⊎ (endpoint ≡ other) → other ≡ kept
    alone other g (inl c) = h.alone other c g
    alone other g (inr e) = sym e ∙ same (ap (λ x. x.guid) e ∙ g)

-- the first announcement of a GUID
IsSettled-first : (announced : List endpoint_spec.EndpointValue) (endpoint : endpoint_spec.EndpointValue) → ((other : endpoint_spec.EndpointValue) → Contains announced other → other.guid ≢ endpoint.guid) → directory.IsSettled (announced ++ endpoint ∷ []) endpoint
IsSettled-first announced endpoint none =
    record {
      is_announced = Contains-push announced endpoint;
      alone = λ other c g. alone other g (Contains-push_cases announced endpoint other c);
    }
  where
    alone : (other : endpoint_spec.EndpointValue) → other.guid ≡ endpoint.guid → Contains announced other ⊎ (endpoint ≡ other) → other ≡ endpoint
    alone other g (inl c) = absurd (none other c g)
    alone other g (inr e) = sym e

-- another announcement of a GUID
pub IsEntry-joined : (announced : List endpoint_spec.EndpointValue) (endpoint : endpoint_spec.EndpointValue) (before : Option (Option endpoint_spec.EndpointValue)) (joined : Option endpoint_spec.EndpointValue)
    → directory.IsEntry announced endpoint.guid before → kept_spec.IsJoined before endpoint joined → directory.IsEntry (announced ++ endpoint ∷ []) endpoint.guid (Some joined)
IsEntry-joined announced endpoint None joined h j =
    subst (λ x. directory.IsEntry (announced ++ endpoint ∷ []) endpoint.guid (Some x)) (sym j) (refl, IsSettled-first announced endpoint h)
IsEntry-joined announced endpoint (Some None) joined h j =
    subst (λ x. directory.IsEntry (announced ++ endpoint ∷ []) endpoint.guid (Some x)) (sym j) (IsUnsettled-push announced endpoint endpoint.guid h)
IsEntry-joined announced endpoint (Some (Some kept)) joined h (inl j) =
    subst (λ x. directory.IsEntry (announced ++ endpoint ∷ []) endpoint.guid (Some x)) (sym j.1)
    (subst (λ x. (x.guid ≡ endpoint.guid) × directory.IsSettled (announced ++ endpoint ∷ []) x) j.0 (h.0, IsSettled-push announced endpoint kept h.1 (λ g. sym j.0)))
IsEntry-joined announced endpoint (Some (Some kept)) joined h (inr j) =
    subst (λ x. directory.IsEntry (announced ++ endpoint ∷ []) endpoint.guid (Some x)) (sym j.1)
    (record {
      one = kept;
      other = endpoint;
      one_announced = Contains-append_left announced (endpoint ∷ []) kept h.1.is_announced;
      other_announced = Contains-push announced endpoint;
      one_of = h.0;
      other_of = refl;
      differ = j.0;
    })

-- an announcement of another GUID
pub IsEntry-other : (announced : List endpoint_spec.EndpointValue) (endpoint : endpoint_spec.EndpointValue) (guid : Guid) (entry : Option (Option endpoint_spec.EndpointValue)) → (endpoint.guid ≢ guid)
    → directory.IsEntry announced guid entry → directory.IsEntry (announced ++ endpoint ∷ []) guid entry
IsEntry-other announced endpoint guid None apart h = λ other c. none other (Contains-push_cases announced endpoint other c)
  where
    none : (other : endpoint_spec.EndpointValue) → Contains announced other ⊎ (endpoint ≡ other) → other.guid ≢ guid
    none other (inl c) g = h other c g
    none other (inr e) g = apart (ap (λ x. x.guid) e ∙ g)
IsEntry-other announced endpoint guid (Some None) apart h = IsUnsettled-push announced endpoint guid h
IsEntry-other announced endpoint guid (Some (Some kept)) apart h =
    (h.0, IsSettled-push announced endpoint kept h.1 (λ g. absurd (apart (g ∙ h.0))))

added_at : (announced : List endpoint_spec.EndpointValue) (old new : List (Guid × Kept)) (endpoint : endpoint_spec.EndpointValue) (kept : Kept) (guid : Guid) (same : Bool)
    → same ≡ eq_by_cmp guid_order.guid_cmp endpoint.guid guid
    → option_map kept_spec.kept_value (lookup (is_at (guid_order.guid_cmp guid)) new) ≡ option_map kept_spec.kept_value (cond same (Some kept) (lookup (is_at (guid_order.guid_cmp guid)) old))
    → directory.IsEntry announced guid (directory.entry_at (kept_spec.entries_value old) guid)
    → directory.IsEntry (announced ++ endpoint ∷ []) endpoint.guid (Some (kept_spec.kept_value kept))
    → directory.IsEntry (announced ++ endpoint ∷ []) guid (directory.entry_at (kept_spec.entries_value new) guid)
added_at announced old new endpoint kept guid true e found was joined =
    rw (entry_at-entries_value new guid, found)
    (subst (λ x. directory.IsEntry (announced ++ endpoint ∷ []) x (Some (kept_spec.kept_value kept))) (tells_apart exact_guids endpoint.guid guid (sym e)) joined)
added_at announced old new endpoint kept guid false e found was joined =
    let apart : endpoint.guid ≢ guid = λ same. false≢true (e ∙ ap (eq_by_cmp guid_order.guid_cmp endpoint.guid) (sym same) ∙ (eq_by_cmp_equiv guids_total).refl endpoint.guid) in
    rw (entry_at-entries_value new guid, found) (rw (← entry_at-entries_value old guid) (IsEntry-other announced endpoint guid _ apart was))

pub entry_added : (announced : List endpoint_spec.EndpointValue) (old new : List (Guid × Kept)) (endpoint : endpoint_spec.EndpointValue) (kept : Kept)
    → IsStrictlySortedBy guid_order.guid_cmp (keys_of new)
    → ((guid : Guid) → lookup (is_at (guid_order.guid_cmp guid)) new ≡ cond (eq_by_cmp guid_order.guid_cmp endpoint.guid guid) (Some kept) (lookup (is_at (guid_order.guid_cmp guid)) old))
    → kept_spec.IsJoined (option_map kept_spec.kept_value (lookup (is_at (guid_order.guid_cmp endpoint.guid)) old)) endpoint (kept_spec.kept_value kept)
    → directory.AreEntries announced (kept_spec.entries_value old) → directory.AreEntries (announced ++ endpoint ∷ []) (kept_spec.entries_value new)
entry_added announced old new endpoint kept sorted updates joins were =
    let before : directory.IsEntry announced endpoint.guid (option_map kept_spec.kept_value (lookup (is_at (guid_order.guid_cmp endpoint.guid)) old)) =
    rw (← entry_at-entries_value old endpoint.guid) (were.each endpoint.guid) in
    let joined : directory.IsEntry (announced ++ endpoint ∷ []) endpoint.guid (Some (kept_spec.kept_value kept)) = IsEntry-joined announced endpoint _ (kept_spec.kept_value kept) before joins in
    record {
      in_order = rw (keys_of-entries_value new) sorted;
      each = λ guid. added_at announced old new endpoint kept guid _ refl (ap (option_map kept_spec.kept_value) (updates guid)) (were.each guid) joined;
    }

-- a GUID that is there stays as it is, where it is announced as before
pub joined_alike : (kept : Kept) (endpoint : endpoint_spec.EndpointValue) → endpoint_spec.endpoint_value kept.endpoint ≡ endpoint → kept_spec.IsJoined (Some (kept_spec.kept_value kept)) endpoint (kept_spec.kept_value kept)
joined_alike kept endpoint same = at_settled kept.settled (endpoint_spec.endpoint_value kept.endpoint) same
  where
    at_settled : (settled : Bool) (there : endpoint_spec.EndpointValue) → there ≡ endpoint → kept_spec.IsJoined (Some (cond settled (Some there) None)) endpoint (cond settled (Some there) None)
    at_settled true there same = inl (same, ap Some same)
    at_settled false there same = refl

-- it is unsettled, where it is announced otherwise
pub joined_otherwise : (kept : Kept) (endpoint : endpoint_spec.EndpointValue) → endpoint_spec.endpoint_value kept.endpoint ≢ endpoint → kept_spec.IsJoined (Some (kept_spec.kept_value kept)) endpoint None
joined_otherwise kept endpoint differ = at_settled kept.settled (endpoint_spec.endpoint_value kept.endpoint) differ
  where
    at_settled : (settled : Bool) (there : endpoint_spec.EndpointValue) → there ≢ endpoint → kept_spec.IsJoined (Some (cond settled (Some there) None)) endpoint None
    at_settled true there differ = inr (differ, refl)
    at_settled false there differ = refl

-- the first announcement of a GUID is added
pub first_added : (announced : List endpoint_spec.EndpointValue) (old new : List (Guid × Kept)) (endpoint : endpoint_spec.EndpointValue) (kept : Kept)
    → IsStrictlySortedBy guid_order.guid_cmp (keys_of new)
    → ((guid : Guid) → lookup (is_at (guid_order.guid_cmp guid)) new ≡ cond (eq_by_cmp guid_order.guid_cmp endpoint.guid guid) (Some kept) (lookup (is_at (guid_order.guid_cmp guid)) old))
    → directory.entry_at (kept_spec.entries_value old) endpoint.guid ≡ None → kept_spec.kept_value kept ≡ Some endpoint
    → directory.AreEntries announced (kept_spec.entries_value old) → directory.AreEntries (announced ++ endpoint ∷ []) (kept_spec.entries_value new)
first_added announced old new endpoint kept sorted updates none is were =
    entry_added announced old new endpoint kept sorted updates (subst (λ before. kept_spec.IsJoined before endpoint (kept_spec.kept_value kept)) (sym none ∙ entry_at-entries_value old endpoint.guid) is) were

-- the endpoints that are settled, and how many GUIDs are not
pub settled : (entries : List (Guid × Kept)) → map endpoint_spec.endpoint_value (map (λ kept. kept.endpoint) (filter (λ kept. kept.settled) (values_of entries))) ≡ directory.settled_in (kept_spec.entries_value entries)
settled [] = refl
settled (entry ∷ entries) = at_first entry.1 entries (settled entries)
  where
    at_settled : (settled : Bool) (endpoint : Endpoint) (others : List Kept) (kept : Kept) (shown : List endpoint_spec.EndpointValue) → kept.endpoint ≡ endpoint → map endpoint_spec.endpoint_value (map (λ kept. kept.endpoint) others) ≡ shown
        → map endpoint_spec.endpoint_value (map (λ kept. kept.endpoint) (cond settled (kept ∷ others) others)) ≡ cons_option (cond settled (Some (endpoint_spec.endpoint_value endpoint)) None) shown
    at_settled true endpoint others kept shown is h = rw (is, h) refl
    at_settled false endpoint others kept shown is h = h

    at_first : (kept : Kept) (entries : List (Guid × Kept)) → map endpoint_spec.endpoint_value (map (λ kept. kept.endpoint) (filter (λ kept. kept.settled) (values_of entries))) ≡ directory.settled_in (kept_spec.entries_value entries)
        → map endpoint_spec.endpoint_value (map (λ kept. kept.endpoint) (filter (λ kept. kept.settled) (kept ∷ values_of entries))) ≡ cons_option (kept_spec.kept_value kept) (directory.settled_in (kept_spec.entries_value entries))
    at_first kept entries h = at_settled kept.settled kept.endpoint (filter (λ kept. kept.settled) (values_of entries)) kept (directory.settled_in (kept_spec.entries_value entries)) refl h

is_none-settled : (settled : Bool) (endpoint : endpoint_spec.EndpointValue) → is_none (cond settled (Some endpoint) None) ≡ not settled
is_none-settled true endpoint = refl
is_none-settled false endpoint = refl

none_among : (kept : Kept) (others : List Kept) (guid : Guid) (shown : directory.Entries) → length (filter (λ kept. not kept.settled) others) ≡ length (filter (λ entry. is_none entry.1) shown)
    → length (filter (λ kept. not kept.settled) (kept ∷ others)) ≡ length (filter (λ entry. is_none entry.1) ((guid, kept_spec.kept_value kept) ∷ shown))
none_among kept others guid shown h =
    at_test (not kept.settled) (is_none (kept_spec.kept_value kept)) kept (filter (λ kept. not kept.settled) others) (guid, kept_spec.kept_value kept) (filter (λ entry. is_none entry.1) shown)
    (sym (is_none-settled kept.settled (endpoint_spec.endpoint_value kept.endpoint))) h
  where
    at_test : (a b : Bool) (x : Kept) (xs : List Kept) (y : Guid × Option endpoint_spec.EndpointValue) (ys : directory.Entries) → a ≡ b → length xs ≡ length ys → length (cond a (x ∷ xs) xs) ≡ length (cond b (y ∷ ys) ys)
    at_test true true x xs y ys e h = ap (λ n. suc n) h
    at_test true false x xs y ys e h = cc
    at_test false true x xs y ys e h = cc
    at_test false false x xs y ys e h = h

unsettled_count : (entries : List (Guid × Kept)) → length (filter (λ kept. not kept.settled) (values_of entries)) ≡ length (filter (λ entry. is_none entry.1) (kept_spec.entries_value entries))
unsettled_count [] = refl
unsettled_count (entry ∷ entries) = none_among entry.1 (values_of entries) entry.0 (kept_spec.entries_value entries) (unsettled_count entries)

pub unsettled : (entries : List (Guid × Kept)) → count_by (λ kept. not kept.settled) (values_of entries) ≡ length (directory.unsettled_in (kept_spec.entries_value entries))
unsettled entries =
    sym (length-filter (λ kept. not kept.settled) (values_of entries)) ∙ unsettled_count entries ∙ sym (length-keys_of (filter (λ entry. is_none entry.1) (kept_spec.entries_value entries)))
