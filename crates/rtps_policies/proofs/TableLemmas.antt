-- One act more: what is told of a GUID first stays.
use Rattle.std.proofs.Common.{◌≡◌, ◌∙◌, Bool, true, false, cond, List, [], ◌∷◌, ◌++◌, Option, Some, None, OnOk, Result, Ok, Err, ap, refl, sym}
use Rattle.std.specs.BTreeMap.{is_at}
use Rattle.std.specs.Cmp.{eq_by_cmp_equiv}
use Rattle.std.specs.List.{cons_option, filter_map}
use Rattle.std.specs.Map.{lookup}
use Rattle.std.specs.Option.{is_some, option_map, option_or}
use Rattle.std.proofs.lemmas.Bool.{false≢true}
use Rattle.std.proofs.lemmas.List.Elements.{filter_map-append}
use Rattle.std.proofs.lemmas.Map.Views.{tells_apart}
use Rattle.rtps_ids.specs.declared.identity.Guid.{Guid}
use Rattle.rtps_receiver.specs.Values as values
use Rattle.rtps_discovery.specs.Endpoint as endpoint
use Rattle.rtps_discovery.specs.GuidOrder as guid_order
use Rattle.rtps_discovery.specs.Notice as notice
use Rattle.rtps_discovery.specs.declared.fault.NoticeFault.{NoticeFault}
use Rattle.rtps_policies.specs.Announcing as announcing
use Rattle.rtps_policies.specs.Policies as policies_spec
use Rattle.rtps_policies.specs.Told as told_spec
use Rattle.rtps_policies.specs.declared.announced.Announced as table
use Rattle.rtps_policies.specs.declared.host.Host.{Host}
use Rattle.rtps_policies.specs.declared.policies.Policies.{Policies}
use Rattle.rtps_policies.proofs.GuidLemmas.{exact_guids, guids_total}

-- what follows from success follows from what success says
pub on_ok : {X E : Type 0} (P Q : Type 0) (r : Result X E) → (P → Q) → OnOk r P → OnOk r Q
on_ok P Q (Ok x) follows holds = follows holds
on_ok P Q (Err e) follows holds = holds

-- ---- the first value of a GUID

lookup_append : {X : Type 0} (test : Guid → Bool) (xs ys : List (Guid × X)) → lookup test (xs ++ ys) ≡ option_or (lookup test xs) (lookup test ys)
lookup_append test [] ys = refl
lookup_append test (x ∷ xs) ys = by (test x.0) (lookup_append test xs ys)
  where
    by : (b : Bool) → lookup test (xs ++ ys) ≡ option_or (lookup test xs) (lookup test ys)
        → cond b (Some x.1) (lookup test (xs ++ ys)) ≡ option_or (cond b (Some x.1) (lookup test xs)) (lookup test ys)
    by true onward = refl
    by false onward = onward

map_or : {V X : Type 0} (view : V → X) (one other : Option V) → option_map view (option_or one other) ≡ option_or (option_map view one) (option_map view other)
map_or view None other = refl
map_or view (Some x) other = refl

pub map_same : {X : Type 0} (one : Option X) → option_map (λ x. x) one ≡ one
map_same None = refl
map_same (Some x) = refl

nothing_more : {X : Type 0} (one : Option X) → option_or one None ≡ one
nothing_more None = refl
nothing_more (Some x) = refl

-- what is kept after one value more, if there is one
abbrev pub KeepsTold : {V : Type 0} → List (Guid × V) → List (Guid × V) → Option (Guid × V) → Type 0
KeepsTold old new None = new ≡ old
KeepsTold old new (Some told) = told_spec.KeepsFirst old new told.0 told.1

-- the values of a table are those that acts tell first, and stay so with one act more
pub told_more : {V X : Type 0} (view : V → X) (tells : values.ActValue → Option (Guid × X)) (acts : List values.ActValue) (act : values.ActValue) (old new : List (Guid × V)) (told : Option (Guid × V))
    → option_map (λ (t : Guid × V). (t.0, view t.1)) told ≡ tells act → KeepsTold old new told
    → ((guid : Guid) → option_map view (announcing.first_of guid old) ≡ announcing.first_of guid (filter_map tells acts))
    → (guid : Guid) → option_map view (announcing.first_of guid new) ≡ announcing.first_of guid (filter_map tells (acts ++ act ∷ []))
told_more {V} {X} view tells acts act old new told is kept were guid =
    by told is kept ∙ sym (ap (announcing.first_of guid) (filter_map-append tells acts (act ∷ [])) ∙ lookup_append (is_at (guid_order.guid_cmp guid)) (filter_map tells acts) (cons_option (tells act) []))
  where
    one : (b : Bool) (value : V) → option_map view (cond b (Some value) None) ≡ cond b (Some (view value)) None
    one true value = refl
    one false value = refl

    by : (told : Option (Guid × V)) → option_map (λ (t : Guid × V). (t.0, view t.1)) told ≡ tells act → KeepsTold old new told
        → option_map view (announcing.first_of guid new) ≡ option_or (announcing.first_of guid (filter_map tells acts)) (announcing.first_of guid (cons_option (tells act) []))
    by None is kept =
        ap (λ l. option_map view (announcing.first_of guid l)) kept ∙ were guid ∙ sym (nothing_more (announcing.first_of guid (filter_map tells acts)))
        ∙ ap (λ t. option_or (announcing.first_of guid (filter_map tells acts)) (announcing.first_of guid (cons_option t []))) is
    by (Some told) is kept =
        ap (option_map view) (kept guid) ∙ map_or view (announcing.first_of guid old) (announcing.first_of guid (told ∷ []))
        ∙ ap (λ x. option_or x (option_map view (announcing.first_of guid (told ∷ [])))) (were guid)
        ∙ ap (option_or (announcing.first_of guid (filter_map tells acts))) (one (is_at (guid_order.guid_cmp guid) told.0) told.1)
        ∙ ap (λ t. option_or (announcing.first_of guid (filter_map tells acts)) (announcing.first_of guid (cons_option t []))) is

-- ---- what an act announces

-- what is announced is no endpoint and a participant at once
apart : {X Y : Type 0} (of_endpoint : endpoint.EndpointValue → X) (of_participant : Guid → Y) (said : Option (Result notice.Announced NoticeFault)) (x : X)
    → option_map of_endpoint (notice.endpoint_in said) ≡ Some x → option_map of_participant (notice.participant_in said) ≡ None
apart of_endpoint of_participant None x some = refl
apart of_endpoint of_participant (Some (Err fault)) x some = refl
apart of_endpoint of_participant (Some (Ok (notice.Announced.Participant guid))) x some = absurd (let bad = some in cc)
apart of_endpoint of_participant (Some (Ok (notice.Announced.Endpoint endpoint))) x some = refl

-- an act that announces an endpoint announces no participant
pub no_host_told : (act : values.ActValue) (told : Guid × policies_spec.PoliciesValue) → announcing.policies_told act ≡ Some told → announcing.host_told act ≡ None
no_host_told act told some = apart _ _ (notice.announcement_of act) told some

-- ---- one act more

-- what is kept has the same entries
pub unchanged : (acts : List values.ActValue) (old new : table.Announced) → new.policies.entries ≡ old.policies.entries → new.hosts.entries ≡ old.hosts.entries → announcing.IsAnnouncedBy acts old → announcing.IsAnnouncedBy acts new
unchanged acts old new policies hosts were =
    record {
      policies = λ guid. ap (λ l. option_map policies_spec.policies_value (announcing.first_of guid l)) policies ∙ were.policies guid;
      hosts = λ guid. ap (announcing.first_of guid) hosts ∙ were.hosts guid;
    }

-- the hosts after an act that announces none, or one more
hosts_more : (acts : List values.ActValue) (act : values.ActValue) (old new : List (Guid × Host)) (told : Option (Guid × Host)) → told ≡ announcing.host_told act → KeepsTold old new told
    → ((guid : Guid) → announcing.first_of guid old ≡ announcing.host_among acts guid) → (guid : Guid) → announcing.first_of guid new ≡ announcing.host_among (acts ++ act ∷ []) guid
hosts_more acts act old new told is kept were guid =
    sym (map_same (announcing.first_of guid new)) ∙ told_more (λ host. host) announcing.host_told acts act old new told (pairs_same told ∙ is) kept (λ other. map_same (announcing.first_of other old) ∙ were other) guid
  where
    pairs_same : (told : Option (Guid × Host)) → option_map (λ (t : Guid × Host). (t.0, t.1)) told ≡ told
    pairs_same None = refl
    pairs_same (Some told) = refl

pub endpoint_noted : (acts : List values.ActValue) (act : values.ActValue) (old new : table.Announced) (guid : Guid) (policies : Policies) → Some (guid, policies_spec.policies_value policies) ≡ announcing.policies_told act
    → told_spec.KeepsFirst old.policies.entries new.policies.entries guid policies → new.hosts.entries ≡ old.hosts.entries → announcing.IsAnnouncedBy acts old → announcing.IsAnnouncedBy (acts ++ act ∷ []) new
endpoint_noted acts act old new guid policies is kept hosts were =
    record {
      policies = told_more policies_spec.policies_value announcing.policies_told acts act old.policies.entries new.policies.entries (Some (guid, policies)) is kept were.policies;
      hosts = hosts_more acts act old.hosts.entries new.hosts.entries None (sym (no_host_told act (guid, policies_spec.policies_value policies) (sym is))) hosts were.hosts;
    }

pub participant_noted : (acts : List values.ActValue) (act : values.ActValue) (old new : table.Announced) (guid : Guid) (host : Host) → None ≡ announcing.policies_told act → Some (guid, host) ≡ announcing.host_told act
    → new.policies.entries ≡ old.policies.entries → told_spec.KeepsFirst old.hosts.entries new.hosts.entries guid host → announcing.IsAnnouncedBy acts old → announcing.IsAnnouncedBy (acts ++ act ∷ []) new
participant_noted acts act old new guid host none is policies kept were =
    record {
      policies = told_more policies_spec.policies_value announcing.policies_told acts act old.policies.entries new.policies.entries None none policies were.policies;
      hosts = hosts_more acts act old.hosts.entries new.hosts.entries (Some (guid, host)) is kept were.hosts;
    }

pub nothing_noted : (acts : List values.ActValue) (act : values.ActValue) (old : table.Announced) → None ≡ announcing.policies_told act → None ≡ announcing.host_told act → announcing.IsAnnouncedBy acts old → announcing.IsAnnouncedBy (acts ++ act ∷ []) old
nothing_noted acts act old no_policies no_host were =
    record {
      policies = told_more policies_spec.policies_value announcing.policies_told acts act old.policies.entries old.policies.entries None no_policies refl were.policies;
      hosts = hosts_more acts act old.hosts.entries old.hosts.entries None no_host refl were.hosts;
    }

-- ---- a value that is kept once

-- a GUID that has a value keeps it
pub kept_there : {V : Type 0} (old : List (Guid × V)) (guid : Guid) (value : V) → is_some (lookup (is_at (guid_order.guid_cmp guid)) old) ≡ true → (other : Guid)
    → lookup (is_at (guid_order.guid_cmp other)) old ≡ option_or (lookup (is_at (guid_order.guid_cmp other)) old) (cond (is_at (guid_order.guid_cmp other) guid) (Some value) None)
kept_there {V} old guid value there other = by (lookup (is_at (guid_order.guid_cmp other)) old) (is_at (guid_order.guid_cmp other) guid) refl refl
  where
    by : (found : Option V) (same : Bool) → lookup (is_at (guid_order.guid_cmp other)) old ≡ found → is_at (guid_order.guid_cmp other) guid ≡ same
        → found ≡ option_or found (cond same (Some value) None)
    by (Some x) same e f = refl
    by None false e f = refl
    by None true e f =
        let one : other ≡ guid = tells_apart exact_guids other guid f in
        absurd (false≢true (sym (ap is_some (sym (ap (λ g. lookup (is_at (guid_order.guid_cmp g)) old) one) ∙ e)) ∙ there))

-- a GUID that has none takes it
pub kept_new : {V : Type 0} (old new : List (Guid × V)) (guid : Guid) (value : V) → is_some (lookup (is_at (guid_order.guid_cmp guid)) old) ≡ false
    → ((other : Guid) → lookup (is_at (guid_order.guid_cmp other)) new ≡ cond (is_at (guid_order.guid_cmp guid) other) (Some value) (lookup (is_at (guid_order.guid_cmp other)) old))
    → (other : Guid) → lookup (is_at (guid_order.guid_cmp other)) new ≡ option_or (lookup (is_at (guid_order.guid_cmp other)) old) (cond (is_at (guid_order.guid_cmp other) guid) (Some value) None)
kept_new {V} old new guid value absent updates other = updates other ∙ by (is_at (guid_order.guid_cmp guid) other) (is_at (guid_order.guid_cmp other) guid) refl refl
  where
    at_none : (found : Option V) → is_some found ≡ false → Some value ≡ option_or found (Some value)
    at_none None none = refl
    at_none (Some x) none = absurd (false≢true (sym none))

    by : (there back : Bool) → is_at (guid_order.guid_cmp guid) other ≡ there → is_at (guid_order.guid_cmp other) guid ≡ back
        → cond there (Some value) (lookup (is_at (guid_order.guid_cmp other)) old) ≡ option_or (lookup (is_at (guid_order.guid_cmp other)) old) (cond back (Some value) None)
    by false false e f = sym (nothing_more (lookup (is_at (guid_order.guid_cmp other)) old))
    by true true e f =
        let one : guid ≡ other = tells_apart exact_guids guid other e in
        at_none (lookup (is_at (guid_order.guid_cmp other)) old) (sym (ap (λ g. is_some (lookup (is_at (guid_order.guid_cmp g)) old)) one) ∙ absent)
    by true false e f =
        let one : guid ≡ other = tells_apart exact_guids guid other e in
        absurd (false≢true (sym f ∙ ap (λ g. is_at (guid_order.guid_cmp other) g) one ∙ (eq_by_cmp_equiv guids_total).refl other))
    by false true e f =
        let one : other ≡ guid = tells_apart exact_guids other guid f in
        absurd (false≢true (sym e ∙ ap (λ g. is_at (guid_order.guid_cmp guid) g) one ∙ (eq_by_cmp_equiv guids_total).refl guid))
