-- Each list of acts has a map.
use Rattle.std.proofs.Common.{◌≡◌, ◌≢◌, ◌↔◌, ◌⊎◌, inl, inr, Bool, true, false, cond, not, ◌&&◌, List, [], ◌∷◌, map, filter, Option, Some, None, Contains, IsSome, refl, sym, ap, subst, ◌∙◌}
use Rattle.std.specs.BTreeMap.{is_at}
use Rattle.std.specs.Cmp.{eq_by_cmp_equiv}
use Rattle.std.specs.FinMap.{entries, entries_sorted, from_entries, get-entries, get-from_entries}
use Rattle.std.specs.Map.{keys_of, lookup}
use Rattle.std.specs.Ordering.{eq_by_cmp}
use Rattle.std.proofs.lemmas.Bool.{false≢true}
use Rattle.std.proofs.lemmas.Map.Views.{Contains-keys_from_lookup, IsSome-lookup_from_Contains, tells_apart}
use Rattle.rtps_ids.specs.declared.identity.Guid.{Guid}
use Rattle.rtps_receiver.specs.Values as values
use Rattle.rtps_discovery.specs.Directory as directory_spec
use Rattle.rtps_discovery.specs.Endpoint as endpoint_spec
use Rattle.rtps_discovery.specs.GuidOrder as guid_order
use Rattle.rtps_discovery.specs.Notice as notice
use Rattle.rtps_discovery.proofs.GuidLaws.{exact_guids, guids_total}
use Rattle.rtps_discovery.proofs.Members.{at_head, at_tail, either_part, from_filter, into_filter, nothing_in_nil}
use Rattle.rtps_discovery.proofs.Same.{same_octets, same_octets_decides, same_value, value_decides}
use Rattle.rtps_discovery.proofs.SortedEntries.{find-lookup, order-from_is_sorted}

-- what a finite map has, in order
made_lookup : {X : Type 0} (es : List (Guid × X)) (guid : Guid) → lookup (is_at (guid_order.guid_cmp guid)) (entries (from_entries {R = guid_order.guid_cmp} es)) ≡ lookup (is_at (guid_order.guid_cmp guid)) es
made_lookup es guid =
    sym (find-lookup guid (entries (from_entries {R = guid_order.guid_cmp} es))) ∙ sym (get-entries (from_entries {R = guid_order.guid_cmp} es) guid) ∙ get-from_entries guids_total es guid ∙ find-lookup guid es

-- ---- participants
marked : List Guid → List (Guid × Bool)
marked guids = map (λ guid. (guid, true)) guids

keys_of-marked : (guids : List Guid) → keys_of (marked guids) ≡ guids
unfolding marked
keys_of-marked [] = refl
keys_of-marked (guid ∷ guids) = ap (λ others. guid ∷ others) (keys_of-marked guids)

participants_made : List Guid → List Guid
participants_made guids = keys_of (entries (from_entries {R = guid_order.guid_cmp} (marked guids)))

made_has : (guids : List Guid) (guid : Guid) → Contains (participants_made guids) guid ↔ Contains guids guid
unfolding participants_made
made_has guids guid =
    let made = entries (from_entries {R = guid_order.guid_cmp} (marked guids)) in (
      λ c. subst (λ keys. Contains keys guid) (keys_of-marked guids)
          (Contains-keys_from_lookup (tells_apart exact_guids) guid (marked guids) (subst IsSome (made_lookup (marked guids) guid) (IsSome-lookup_from_Contains (eq_by_cmp_equiv guids_total) guid made c))),
      λ c. Contains-keys_from_lookup (tells_apart exact_guids) guid made
          (subst IsSome (sym (made_lookup (marked guids) guid)) (IsSome-lookup_from_Contains (eq_by_cmp_equiv guids_total) guid (marked guids) (subst (λ keys. Contains keys guid) (sym (keys_of-marked guids)) c))),
    )

participants_exist : (guids : List Guid) → directory_spec.AreParticipants guids (participants_made guids)
unfolding participants_made
participants_exist guids =
    record { in_order = order-from_is_sorted _ (entries_sorted (from_entries {R = guid_order.guid_cmp} (marked guids))); announced_alone = made_has guids }

-- ---- endpoints
-- an announcement of one GUID that says something else
disagrees : endpoint_spec.EndpointValue → endpoint_spec.EndpointValue → Bool
disagrees endpoint other = same_octets other.guid endpoint.guid && not (same_value other endpoint)

entry_by : endpoint_spec.EndpointValue → List endpoint_spec.EndpointValue → Option endpoint_spec.EndpointValue
entry_by endpoint [] = Some endpoint
entry_by endpoint (other ∷ others) = None

entry_made : List endpoint_spec.EndpointValue → endpoint_spec.EndpointValue → Option endpoint_spec.EndpointValue
entry_made announced endpoint = entry_by endpoint (filter (disagrees endpoint) announced)

and_not : (a b : Bool) → a ≡ true → b ≡ false → (a && not b) ≡ true
and_not a b e f = rw (e, f) refl

disagrees-true : (endpoint other : endpoint_spec.EndpointValue) → other.guid ≡ endpoint.guid → same_value other endpoint ≡ false → disagrees endpoint other ≡ true
unfolding disagrees
disagrees-true endpoint other g e = and_not _ _ ((same_octets_decides other.guid endpoint.guid).1 g) e

and_true : (a b : Bool) → (a && b) ≡ true → (a ≡ true) × (b ≡ true)
and_true true b e = (refl, e)
and_true false b e = absurd (false≢true e)

not_true : (b : Bool) → not b ≡ true → b ≡ false
not_true true e = absurd (false≢true e)
not_true false e = refl

none_disagrees : (announced : List endpoint_spec.EndpointValue) (endpoint other : endpoint_spec.EndpointValue) → filter (disagrees endpoint) announced ≡ [] → Contains announced other → other.guid ≡ endpoint.guid → other ≡ endpoint
none_disagrees announced endpoint other none c g = by_test (same_value other endpoint) refl
  where
    by_test : (b : Bool) → same_value other endpoint ≡ b → other ≡ endpoint
    by_test true e = (value_decides other endpoint).0 e
    by_test false e = absurd (nothing_in_nil other (subst (λ xs. Contains xs other) none (into_filter (disagrees endpoint) announced other c (disagrees-true endpoint other g e))))

made_entry : (announced : List endpoint_spec.EndpointValue) (endpoint : endpoint_spec.EndpointValue) (others : List endpoint_spec.EndpointValue) → filter (disagrees endpoint) announced ≡ others → Contains announced endpoint
    → directory_spec.IsEntry announced endpoint.guid (Some (entry_by endpoint others))
unfolding disagrees entry_by
made_entry announced endpoint [] none c = (refl, record { is_announced = c; alone = λ other d g. none_disagrees announced endpoint other none d g })
made_entry announced endpoint (other ∷ others) some c =
    let found = from_filter (disagrees endpoint) announced other (subst (λ xs. Contains xs other) (sym some) (at_head other others)) in
    let both = and_true _ _ found.1 in
    record {
      one = endpoint;
      other = other;
      one_announced = c;
      other_announced = found.0;
      one_of = refl;
      other_of = (same_octets_decides other.guid endpoint.guid).0 both.0;
      differ = λ e. false≢true (sym (not_true _ both.1) ∙ (value_decides other endpoint).1 (sym e));
    }

made_of : List endpoint_spec.EndpointValue → List endpoint_spec.EndpointValue → directory_spec.Entries
made_of announced endpoints = map (λ endpoint. (endpoint.guid, entry_made announced endpoint)) endpoints

-- what is found at a GUID
abbrev Found : List endpoint_spec.EndpointValue → List endpoint_spec.EndpointValue → Guid → Option (Option endpoint_spec.EndpointValue) → Type 0
Found announced endpoints guid None = (endpoint : endpoint_spec.EndpointValue) → Contains endpoints endpoint → endpoint.guid ≢ guid
Found announced endpoints guid (Some entry) = (endpoint : endpoint_spec.EndpointValue) × Contains announced endpoint × (endpoint.guid ≡ guid) × (entry ≡ entry_made announced endpoint)

found_later : (announced endpoints : List endpoint_spec.EndpointValue) (endpoint : endpoint_spec.EndpointValue) (guid : Guid) (found : Option (Option endpoint_spec.EndpointValue)) → (endpoint.guid ≢ guid)
    → Found announced endpoints guid found → Found announced (endpoint ∷ endpoints) guid found
found_later announced endpoints endpoint guid None apart h = λ other c. by_part other (either_part endpoint other endpoints c)
  where
    by_part : (other : endpoint_spec.EndpointValue) → (endpoint ≡ other) ⊎ Contains endpoints other → other.guid ≢ guid
    by_part other (inl e) g = apart (ap (λ x. x.guid) e ∙ g)
    by_part other (inr c) g = h other c g
found_later announced endpoints endpoint guid (Some entry) apart h = h

found_first : (announced endpoints : List endpoint_spec.EndpointValue) (endpoint : endpoint_spec.EndpointValue) (guid : Guid) (b : Bool) (found : Option (Option endpoint_spec.EndpointValue)) → eq_by_cmp guid_order.guid_cmp guid endpoint.guid ≡ b
    → Contains announced endpoint → Found announced endpoints guid found → Found announced (endpoint ∷ endpoints) guid (cond b (Some (entry_made announced endpoint)) found)
found_first announced endpoints endpoint guid true found e c h = (endpoint, c, sym (tells_apart exact_guids guid endpoint.guid e), refl)
found_first announced endpoints endpoint guid false found e c h =
    found_later announced endpoints endpoint guid found (λ g. false≢true (sym e ∙ ap (eq_by_cmp guid_order.guid_cmp guid) g ∙ (eq_by_cmp_equiv guids_total).refl guid)) h

find_made : (announced endpoints : List endpoint_spec.EndpointValue) (guid : Guid) → ((endpoint : endpoint_spec.EndpointValue) → Contains endpoints endpoint → Contains announced endpoint)
    → Found announced endpoints guid (lookup (is_at (guid_order.guid_cmp guid)) (made_of announced endpoints))
unfolding made_of
find_made announced [] guid h = λ endpoint c. absurd (nothing_in_nil endpoint c)
find_made announced (endpoint ∷ endpoints) guid h =
    found_first announced endpoints endpoint guid _ _ refl (h endpoint (at_head endpoint endpoints)) (find_made announced endpoints guid (λ other c. h other (at_tail endpoint other endpoints c)))

entry_found : (announced : List endpoint_spec.EndpointValue) (guid : Guid) (found : Option (Option endpoint_spec.EndpointValue)) → Found announced announced guid found → directory_spec.IsEntry announced guid found
unfolding entry_made
entry_found announced guid None h = h
entry_found announced guid (Some entry) h =
    subst (λ x. directory_spec.IsEntry announced x (Some entry)) h.2
    (subst (λ x. directory_spec.IsEntry announced h.0.guid (Some x)) (sym h.3) (made_entry announced h.0 (filter (disagrees h.0) announced) refl h.1))

entries_made : List endpoint_spec.EndpointValue → directory_spec.Entries
entries_made announced = entries (from_entries {R = guid_order.guid_cmp} (made_of announced announced))

entries_exist : (announced : List endpoint_spec.EndpointValue) → directory_spec.AreEntries announced (entries_made announced)
unfolding entries_made
entries_exist announced =
    record {
      in_order = order-from_is_sorted _ (entries_sorted (from_entries {R = guid_order.guid_cmp} (made_of announced announced)));
      each = λ guid. subst (directory_spec.IsEntry announced guid) (sym (made_lookup (made_of announced announced) guid)) (entry_found announced guid _ (find_made announced announced guid (λ endpoint c. c)));
    }

pub has_map : (acts : List values.ActValue) → (directory : directory_spec.DirectoryValue) × directory_spec.IsMapOf acts directory
has_map acts = (
  record { participants = participants_made (notice.participants_among acts); endpoints = entries_made (notice.endpoints_among acts) },
  record { participants = participants_exist (notice.participants_among acts); endpoints = entries_exist (notice.endpoints_among acts) },
)
