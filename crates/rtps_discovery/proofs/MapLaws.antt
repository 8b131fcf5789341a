-- Laws of the map of a list of acts: one map, whatever the order, and what is read off it.
use Rattle.std.proofs.Common.{◌≡◌, ◌↔◌, ◌⊎◌, inl, inr, true, List, [], ◌∷◌, ◌++◌, filter, Option, Some, None, Result, Ok, Contains, Decides, refl, sym, ap, subst, ◌∙◌}
use Rattle.std.specs.Cmp.{eq_by_cmp_equiv}
use Rattle.std.specs.List.{filter_map}
use Rattle.std.specs.List.Sorted.{IsPermutation, IsStrictlySortedBy}
use Rattle.std.specs.Map.{keys_of}
use Rattle.std.specs.Option.{is_none}
use Rattle.std.proofs.lemmas.Bool.Decides.{same_from_decides}
use Rattle.std.proofs.lemmas.List.Elements.{Contains-append_left, Contains-push_cases}
use Rattle.std.proofs.lemmas.List.Sorted.{Contains-permutation, IsPermutation-sym}
use Rattle.std.proofs.lemmas.Map.Keys.{IsDistinct-from_sorted}
use Rattle.std.proofs.lemmas.Map.Lookups.{btree_set_from_contains}
use Rattle.std.proofs.lemmas.Map.Views.{Contains-from_lookup, lookup-from_Contains, tells_apart}
use Rattle.rtps_discovery.proofs.SortedEntries.{same_by_lookup}
use Rattle.rtps_ids.specs.declared.identity.Guid.{Guid}
use Rattle.rtps_receiver.specs.Values as values
use Rattle.rtps_discovery.specs.Directory as directory_spec
use Rattle.rtps_discovery.specs.Endpoint as endpoint_spec
use Rattle.rtps_discovery.specs.GuidOrder as guid_order
use Rattle.rtps_discovery.specs.Notice as notice
use Rattle.rtps_discovery.specs.declared.fault.NoticeFault.{NoticeFault}
use Rattle.rtps_discovery.proofs.GuidLaws.{exact_guids, guids_total}
use Rattle.rtps_discovery.proofs.Members.{from_filter, from_filter_map, from_map, into_filter, into_filter_map, into_map, nothing_in_nil}
use Rattle.rtps_discovery.proofs.Participants.{Contains-has, has, has-Contains}

-- ---- one map
has_decides : (guids : List Guid) (guid : Guid) → Decides (has guids guid) (Contains guids guid)
has_decides guids guid = (has-Contains guids guid, Contains-has guids guid)

participants_same : (announced some others : List Guid) → directory_spec.AreParticipants announced some → directory_spec.AreParticipants announced others → some ≡ others
participants_same announced some others p q =
    btree_set_from_contains guids_total (record { keys = some }) (record { keys = others }) p.in_order q.in_order
    (λ guid. same_from_decides (has some guid) (has others guid)
    (λ h. (q.announced_alone guid).1 ((p.announced_alone guid).0 (has-Contains some guid h)), λ c. Contains-has some guid ((p.announced_alone guid).1 ((q.announced_alone guid).0 c)))
    (has_decides others guid))
    exact_guids

settled_same : (announced : List endpoint_spec.EndpointValue) (one other : endpoint_spec.EndpointValue) (guid : Guid) → (one.guid ≡ guid) × directory_spec.IsSettled announced one → (other.guid ≡ guid) × directory_spec.IsSettled announced other → one ≡ other
settled_same announced one other guid p q = q.1.alone one p.1.is_announced (p.0 ∙ sym q.0)

not_both : (announced : List endpoint_spec.EndpointValue) (one : endpoint_spec.EndpointValue) (guid : Guid) → (one.guid ≡ guid) × directory_spec.IsSettled announced one → directory_spec.IsUnsettled announced guid → ⊥
not_both announced one guid p q =
    q.differ (p.1.alone q.one q.one_announced (q.one_of ∙ sym p.0) ∙ sym (p.1.alone q.other q.other_announced (q.other_of ∙ sym p.0)))

entry_same : (announced : List endpoint_spec.EndpointValue) (guid : Guid) (x y : Option (Option endpoint_spec.EndpointValue)) → directory_spec.IsEntry announced guid x → directory_spec.IsEntry announced guid y → x ≡ y
entry_same announced guid None None p q = refl
entry_same announced guid None (Some None) p q = absurd (p q.one q.one_announced q.one_of)
entry_same announced guid None (Some (Some other)) p q = absurd (p other q.1.is_announced q.0)
entry_same announced guid (Some None) None p q = absurd (q p.one p.one_announced p.one_of)
entry_same announced guid (Some None) (Some None) p q = refl
entry_same announced guid (Some None) (Some (Some other)) p q = absurd (not_both announced other guid q p)
entry_same announced guid (Some (Some one)) None p q = absurd (q one p.1.is_announced p.0)
entry_same announced guid (Some (Some one)) (Some None) p q = absurd (not_both announced one guid p q)
entry_same announced guid (Some (Some one)) (Some (Some other)) p q = ap (λ x. Some (Some x)) (settled_same announced one other guid p q)

entries_same : (announced : List endpoint_spec.EndpointValue) (some others : directory_spec.Entries) → directory_spec.AreEntries announced some → directory_spec.AreEntries announced others → some ≡ others
entries_same announced some others p q =
    same_by_lookup some others p.in_order q.in_order (λ guid. entry_same announced guid _ _ (p.each guid) (q.each guid))

same_directory : (a b : directory_spec.DirectoryValue) → a.participants ≡ b.participants → a.endpoints ≡ b.endpoints → a ≡ b
same_directory a b p e =
    let make = λ (parts : List Guid × directory_spec.Entries). let directory : directory_spec.DirectoryValue = record { participants = parts.0; endpoints = parts.1 } in directory in
    let parts : (a.participants, a.endpoints) ≡ (b.participants, b.endpoints) = cc in ap make parts

pub one_map : (acts : List values.ActValue) (some other : directory_spec.DirectoryValue) → directory_spec.IsMapOf acts some → directory_spec.IsMapOf acts other → some ≡ other
one_map acts some other p q =
    same_directory some other (participants_same _ some.participants other.participants p.participants q.participants) (entries_same _ some.endpoints other.endpoints p.endpoints q.endpoints)

-- ---- whatever the order
abbrev SameMembers : {X : Type 0} → List X → List X → Type 0
SameMembers {X} xs ys = (x : X) → Contains xs x ↔ Contains ys x

participants_moved : (some others participants : List Guid) → SameMembers some others → directory_spec.AreParticipants some participants → directory_spec.AreParticipants others participants
participants_moved some others participants same p =
    record { in_order = p.in_order; announced_alone = λ guid. (λ c. (same guid).0 ((p.announced_alone guid).0 c), λ c. (p.announced_alone guid).1 ((same guid).1 c)) }

entry_moved : (some others : List endpoint_spec.EndpointValue) (guid : Guid) (x : Option (Option endpoint_spec.EndpointValue)) → SameMembers some others → directory_spec.IsEntry some guid x → directory_spec.IsEntry others guid x
entry_moved some others guid None same h = λ endpoint c. h endpoint ((same endpoint).1 c)
entry_moved some others guid (Some None) same h =
    record {
      one = h.one;
      other = h.other;
      one_announced = (same h.one).0 h.one_announced;
      other_announced = (same h.other).0 h.other_announced;
      one_of = h.one_of;
      other_of = h.other_of;
      differ = h.differ;
    }
entry_moved some others guid (Some (Some endpoint)) same h =
    (h.0, record { is_announced = (same endpoint).0 h.1.is_announced; alone = λ other c g. h.1.alone other ((same other).1 c) g })

among_moved : {Y : Type 0} (f : values.ActValue → Option Y) (acts others : List values.ActValue) → ((act : values.ActValue) → Contains acts act → Contains others act)
    → (y : Y) → Contains (filter_map f acts) y → Contains (filter_map f others) y
among_moved f acts others h y c = let m = from_filter_map f acts y c in into_filter_map f others m.0 y (h m.0 m.1) m.2

pub map_moved : (acts others : List values.ActValue) (directory : directory_spec.DirectoryValue) → SameMembers acts others → directory_spec.IsMapOf acts directory → directory_spec.IsMapOf others directory
unfolding notice.participants_among notice.endpoints_among
map_moved acts others directory same p =
    let there = λ (act : values.ActValue). (same act).0 in
    let back = λ (act : values.ActValue). (same act).1 in
    record {
      participants = participants_moved _ (notice.participants_among others) directory.participants
          (λ guid. (among_moved (λ act. notice.participant_in (notice.announcement_of act)) acts others there guid, among_moved (λ act. notice.participant_in (notice.announcement_of act)) others acts back guid)) p.participants;
      endpoints = record {
        in_order = p.endpoints.in_order;
        each = λ guid. entry_moved _ (notice.endpoints_among others) guid _
            (λ endpoint. (among_moved (λ act. notice.endpoint_in (notice.announcement_of act)) acts others there endpoint, among_moved (λ act. notice.endpoint_in (notice.announcement_of act)) others acts back endpoint)) (p.endpoints.each guid);
      };
    }

pub any_order : (acts others : List values.ActValue) (directory : directory_spec.DirectoryValue) → IsPermutation acts others → directory_spec.IsMapOf acts directory → directory_spec.IsMapOf others directory
any_order acts others directory h =
    map_moved acts others directory (λ act. (Contains-permutation acts others act h, Contains-permutation others acts act (IsPermutation-sym acts others h)))

seen_before : (acts : List values.ActValue) (act other : values.ActValue) → Contains acts act → Contains acts other ⊎ (act ≡ other) → Contains acts other
seen_before acts act other c (inl d) = d
seen_before acts act other c (inr e) = subst (λ x. Contains acts x) e c

pub again : (acts : List values.ActValue) (act : values.ActValue) (directory : directory_spec.DirectoryValue) → Contains acts act → directory_spec.IsMapOf acts directory → directory_spec.IsMapOf (acts ++ act ∷ []) directory
again acts act directory c =
    map_moved acts (acts ++ act ∷ []) directory (λ other. (Contains-append_left acts (act ∷ []) other, λ d. seen_before acts act other c (Contains-push_cases acts act other d)))

-- ---- an announcement that comes again
abbrev Said : Type 0
Said = Option (Result notice.Announced NoticeFault)

-- each announcement of some is one of the others
abbrev SaysNoMore : List values.ActValue → List values.ActValue → Type 0
SaysNoMore acts others = (act : values.ActValue) → Contains acts act → notice.RepeatsOneOf others act

among_said : {Y : Type 0} (f : Said → Option Y) (acts others : List values.ActValue) → SaysNoMore acts others
    → (y : Y) → Contains (filter_map (λ act. f (notice.announcement_of act)) acts) y → Contains (filter_map (λ act. f (notice.announcement_of act)) others) y
among_said f acts others h y c =
    let m = from_filter_map (λ act. f (notice.announcement_of act)) acts y c in
    let r = h m.0 m.1 in into_filter_map (λ act. f (notice.announcement_of act)) others r.first y r.is_among (sym (ap f r.says_the_same) ∙ m.2)

map_said : (acts others : List values.ActValue) (directory : directory_spec.DirectoryValue) → SaysNoMore acts others → SaysNoMore others acts → directory_spec.IsMapOf acts directory → directory_spec.IsMapOf others directory
unfolding notice.participants_among notice.endpoints_among
map_said acts others directory there back p =
    record {
      participants = participants_moved _ (notice.participants_among others) directory.participants
          (λ guid. (among_said notice.participant_in acts others there guid, among_said notice.participant_in others acts back guid)) p.participants;
      endpoints = record {
        in_order = p.endpoints.in_order;
        each = λ guid. entry_moved _ (notice.endpoints_among others) guid _
            (λ endpoint. (among_said notice.endpoint_in acts others there endpoint, among_said notice.endpoint_in others acts back endpoint)) (p.endpoints.each guid);
      };
    }

itself : (acts : List values.ActValue) (act : values.ActValue) → Contains acts act → notice.RepeatsOneOf acts act
itself acts act c = record { first = act; is_among = c; says_the_same = refl }

nothing_new : (acts : List values.ActValue) (act other : values.ActValue) → notice.RepeatsOneOf acts act → Contains acts other ⊎ (act ≡ other) → notice.RepeatsOneOf acts other
nothing_new acts act other r (inl d) = itself acts other d
nothing_new acts act other r (inr e) = subst (notice.RepeatsOneOf acts) e r

pub repeated : (acts : List values.ActValue) (act : values.ActValue) (directory : directory_spec.DirectoryValue) → notice.RepeatsOneOf acts act → directory_spec.IsMapOf acts directory ↔ directory_spec.IsMapOf (acts ++ act ∷ []) directory
repeated acts act directory r =
    let more : SaysNoMore acts (acts ++ act ∷ []) = λ other c. itself (acts ++ act ∷ []) other (Contains-append_left acts (act ∷ []) other c) in
    let no_more : SaysNoMore (acts ++ act ∷ []) acts = λ other c. nothing_new acts act other r (Contains-push_cases acts act other c) in
    (map_said acts (acts ++ act ∷ []) directory more no_more, map_said (acts ++ act ∷ []) acts directory no_more more)

-- ---- settled, and not
pub entry_of : (announced : List endpoint_spec.EndpointValue) (entries : directory_spec.Entries) (guid : Guid) (entry : Option endpoint_spec.EndpointValue) → directory_spec.AreEntries announced entries → Contains entries (guid, entry) → directory_spec.IsEntry announced guid (Some entry)
entry_of announced entries guid entry h c =
    subst (directory_spec.IsEntry announced guid) (lookup-from_Contains (eq_by_cmp_equiv guids_total) guid entry entries (IsDistinct-from_sorted guid_order.guid_cmp (keys_of entries) h.in_order) c) (h.each guid)

is_entry : (entries : directory_spec.Entries) (guid : Guid) (entry : Option endpoint_spec.EndpointValue) → directory_spec.entry_at entries guid ≡ Some entry → Contains entries (guid, entry)
is_entry entries guid entry e = Contains-from_lookup (tells_apart exact_guids) guid entry entries e

settled_at : (announced : List endpoint_spec.EndpointValue) (endpoint : endpoint_spec.EndpointValue) (found : Option (Option endpoint_spec.EndpointValue)) → directory_spec.IsEntry announced endpoint.guid found → directory_spec.IsSettled announced endpoint → found ≡ Some (Some endpoint)
settled_at announced endpoint found h s = entry_same announced endpoint.guid found (Some (Some endpoint)) h (refl, s)

pub settled_listed : (announced : List endpoint_spec.EndpointValue) (entries : directory_spec.Entries) (endpoint : endpoint_spec.EndpointValue) → directory_spec.AreEntries announced entries → Contains (directory_spec.settled_in entries) endpoint ↔ directory_spec.IsSettled announced endpoint
settled_listed announced entries endpoint h = (there, back)
  where
    at_entry : (guid : Guid) (entry : Option endpoint_spec.EndpointValue) → entry ≡ Some endpoint → directory_spec.IsEntry announced guid (Some entry) → directory_spec.IsSettled announced endpoint
    at_entry guid entry e p = (subst (λ x. directory_spec.IsEntry announced guid (Some x)) e p).1

    there : Contains (directory_spec.settled_in entries) endpoint → directory_spec.IsSettled announced endpoint
    there c = let m = from_filter_map (λ entry. entry.1) entries endpoint c in at_entry m.0.0 m.0.1 m.2 (entry_of announced entries m.0.0 m.0.1 h m.1)

    back : directory_spec.IsSettled announced endpoint → Contains (directory_spec.settled_in entries) endpoint
    back s = into_filter_map (λ entry. entry.1) entries (endpoint.guid, Some endpoint) endpoint (is_entry entries endpoint.guid (Some endpoint) (settled_at announced endpoint _ (h.each endpoint.guid) s)) refl

none_is : (entry : Option endpoint_spec.EndpointValue) → is_none entry ≡ true → entry ≡ None
none_is None e = refl
none_is (Some endpoint) e = cc

pub unsettled_listed : (announced : List endpoint_spec.EndpointValue) (entries : directory_spec.Entries) (guid : Guid) → directory_spec.AreEntries announced entries → Contains (directory_spec.unsettled_in entries) guid ↔ directory_spec.IsUnsettled announced guid
unsettled_listed announced entries guid h = (there, back)
  where
    at_entry : (key : Guid) (entry : Option endpoint_spec.EndpointValue) → key ≡ guid → entry ≡ None → directory_spec.IsEntry announced key (Some entry) → directory_spec.IsUnsettled announced guid
    at_entry key entry k e p = subst (λ x. directory_spec.IsUnsettled announced x) k (subst (λ x. directory_spec.IsEntry announced key (Some x)) e p)

    there : Contains (directory_spec.unsettled_in entries) guid → directory_spec.IsUnsettled announced guid
    there c =
        let m = from_map (λ entry. entry.0) (filter (λ entry. is_none entry.1) entries) guid c in
        let f = from_filter (λ entry. is_none entry.1) entries m.0 m.1 in
        at_entry m.0.0 m.0.1 m.2 (none_is m.0.1 f.1) (entry_of announced entries m.0.0 m.0.1 h f.0)

    back : directory_spec.IsUnsettled announced guid → Contains (directory_spec.unsettled_in entries) guid
    back u =
        into_map (λ entry. entry.0) (filter (λ entry. is_none entry.1) entries) (guid, None)
        (into_filter (λ entry. is_none entry.1) entries (guid, None) (is_entry entries guid None (entry_same announced guid _ (Some None) (h.each guid) u)) refl)

-- ---- the map of no acts
pub no_acts : directory_spec.IsMapOf [] (record { participants = []; endpoints = [] })
unfolding notice.participants_among notice.endpoints_among IsStrictlySortedBy
no_acts =
    record {
      participants = record { in_order = tt; announced_alone = λ guid. (λ c. c, λ c. c) };
      endpoints = record { in_order = tt; each = λ guid endpoint c. absurd (nothing_in_nil endpoint c) };
    }

-- ---- what was announced is there
pub participant_there : (acts : List values.ActValue) (act : values.ActValue) (guid : Guid) (directory : directory_spec.DirectoryValue) → directory_spec.IsMapOf acts directory → Contains acts act
    → notice.announcement_of act ≡ Some (Ok (notice.Announced.Participant guid)) → Contains directory.participants guid
unfolding notice.participants_among
participant_there acts act guid directory h c said =
    (h.participants.announced_alone guid).1 (into_filter_map (λ act. notice.participant_in (notice.announcement_of act)) acts act guid c (ap notice.participant_in said))

none_there : (announced : List endpoint_spec.EndpointValue) (endpoint : endpoint_spec.EndpointValue) (found : Option (Option endpoint_spec.EndpointValue)) → directory_spec.IsEntry announced endpoint.guid found → Contains announced endpoint → found ≡ None → ⊥
none_there announced endpoint None h c e = h endpoint c refl
none_there announced endpoint (Some entry) h c e = cc

pub entry_there : (acts : List values.ActValue) (act : values.ActValue) (endpoint : endpoint_spec.EndpointValue) (directory : directory_spec.DirectoryValue) → directory_spec.IsMapOf acts directory → Contains acts act
    → notice.announcement_of act ≡ Some (Ok (notice.Announced.Endpoint endpoint)) → directory_spec.entry_at directory.endpoints endpoint.guid ≡ None → ⊥
unfolding notice.endpoints_among
entry_there acts act endpoint directory h c said e =
    none_there (notice.endpoints_among acts) endpoint _ (h.endpoints.each endpoint.guid) (into_filter_map (λ act. notice.endpoint_in (notice.announcement_of act)) acts act endpoint c (ap notice.endpoint_in said)) e
