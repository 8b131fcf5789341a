-- One act more: what is told of a GUID first stays, writers and names are added, and the nodes that are told last count.
use Rattle.std.proofs.Common.{◌≡◌, ◌∙◌, Bool, true, false, ◌||◌, cond, List, [], ◌∷◌, ◌++◌, Option, Some, None, OnOk, Result, Ok, Err, ap, append-nil, fold, refl, sym}
use Rattle.std.specs.BTreeMap.{is_at}
use Rattle.std.specs.BTreeSet.{contains}
use Rattle.std.specs.List.{cons_option, filter_map, flat_map, list_any}
use Rattle.std.specs.Map.{lookup}
use Rattle.std.specs.Option.{option_map, option_or}
use Rattle.std.proofs.Math.Bool.{or-false}
use Rattle.std.proofs.lemmas.Grind.{flat_map-append}
use Rattle.std.proofs.lemmas.List.Elements.{filter_map-append}
use Rattle.std.proofs.lemmas.List.Folds.{list_any-append}
use Rattle.std.proofs.lemmas.List.Sums.{fold-append}
use Rattle.rtps_ids.specs.declared.identity.Guid.{Guid}
use Rattle.rtps_ids.specs.declared.identity.GuidPrefix.{GuidPrefix}
use Rattle.rtps_receiver.specs.Values as values
use Rattle.rtps_discovery.specs.Endpoint as endpoint
use Rattle.rtps_discovery.specs.GuidOrder as guid_order
use Rattle.rtps_discovery.specs.Notice as notice
use Rattle.rtps_discovery.specs.declared.fault.NoticeFault.{NoticeFault}
use Rattle.rtps_policies.specs.Announcing as announcing
use Rattle.rtps_policies.specs.Told as told_spec
use Rattle.rtps_who.specs.Introducing as introducing
use Rattle.rtps_who.specs.Processes as processes
use Rattle.rtps_who.specs.Services as services_spec
use Rattle.rtps_who.specs.declared.introductions.Introductions.{Introductions}
use Rattle.rtps_who.specs.declared.process.Process.{Process}

-- what follows from success follows from what success says
pub on_ok : {X E : Type 0} (P Q : Type 0) (r : Result X E) → (P → Q) → OnOk r P → OnOk r Q
on_ok P Q (Ok x) follows holds = follows holds
on_ok P Q (Err e) follows holds = holds

-- ---- the first value of a GUID

pub lookup_append : {X : Type 0} (test : Guid → Bool) (xs ys : List (Guid × X)) → lookup test (xs ++ ys) ≡ option_or (lookup test xs) (lookup test ys)
lookup_append test [] ys = refl
lookup_append test (x ∷ xs) ys = by (test x.0) (lookup_append test xs ys)
  where
    by : (b : Bool) → lookup test (xs ++ ys) ≡ option_or (lookup test xs) (lookup test ys)
        → cond b (Some x.1) (lookup test (xs ++ ys)) ≡ option_or (cond b (Some x.1) (lookup test xs)) (lookup test ys)
    by true onward = refl
    by false onward = onward

map_or : {V X : Type 0} (view : V → X) (one other : Option V) → option_map view (option_or one other) ≡ option_or (option_map view one) (option_map view other)
map_or view None other = refl
map_or view (Some x) other = refl

nothing_more : {X : Type 0} (one : Option X) → option_or one None ≡ one
nothing_more None = refl
nothing_more (Some x) = refl

-- what is kept after one value more, if there is one
abbrev pub KeepsTold : {V : Type 0} → List (Guid × V) → List (Guid × V) → Option (Guid × V) → Type 0
KeepsTold old new None = new ≡ old
KeepsTold old new (Some told) = told_spec.KeepsFirst old new told.0 told.1

-- the values of a table are those that acts tell first, and stay so with one act more
pub told_more : {V X : Type 0} (view : V → X) (tells : values.ActValue → Option (Guid × X)) (acts : List values.ActValue) (act : values.ActValue) (old new : List (Guid × V)) (told : Option (Guid × V))
    → option_map (λ (t : Guid × V). (t.0, view t.1)) told ≡ tells act → KeepsTold old new told
    → ((guid : Guid) → option_map view (announcing.first_of guid old) ≡ announcing.first_of guid (filter_map tells acts))
    → (guid : Guid) → option_map view (announcing.first_of guid new) ≡ announcing.first_of guid (filter_map tells (acts ++ act ∷ []))
told_more {V} {X} view tells acts act old new told is kept were guid =
    by told is kept ∙ sym (ap (announcing.first_of guid) (filter_map-append tells acts (act ∷ [])) ∙ lookup_append (is_at (guid_order.guid_cmp guid)) (filter_map tells acts) (cons_option (tells act) []))
  where
    one : (b : Bool) (value : V) → option_map view (cond b (Some value) None) ≡ cond b (Some (view value)) None
    one true value = refl
    one false value = refl

    by : (told : Option (Guid × V)) → option_map (λ (t : Guid × V). (t.0, view t.1)) told ≡ tells act → KeepsTold old new told
        → option_map view (announcing.first_of guid new) ≡ option_or (announcing.first_of guid (filter_map tells acts)) (announcing.first_of guid (cons_option (tells act) []))
    by None is kept =
        ap (λ l. option_map view (announcing.first_of guid l)) kept ∙ were guid ∙ sym (nothing_more (announcing.first_of guid (filter_map tells acts)))
        ∙ ap (λ t. option_or (announcing.first_of guid (filter_map tells acts)) (announcing.first_of guid (cons_option t []))) is
    by (Some told) is kept =
        ap (option_map view) (kept guid) ∙ map_or view (announcing.first_of guid old) (announcing.first_of guid (told ∷ []))
        ∙ ap (λ x. option_or x (option_map view (announcing.first_of guid (told ∷ [])))) (were guid)
        ∙ ap (option_or (announcing.first_of guid (filter_map tells acts))) (one (is_at (guid_order.guid_cmp guid) told.0) told.1)
        ∙ ap (λ t. option_or (announcing.first_of guid (filter_map tells acts)) (announcing.first_of guid (cons_option t []))) is

-- ---- what an act announces

-- what is announced is no endpoint and a participant at once
apart : {Y : Type 0} (of_participant : Guid → Y) (said : Option (Result notice.Announced NoticeFault)) (x : endpoint.EndpointValue)
    → notice.endpoint_in said ≡ Some x → option_map of_participant (notice.participant_in said) ≡ None
apart of_participant None x some = refl
apart of_participant (Some (Err fault)) x some = refl
apart of_participant (Some (Ok (notice.Announced.Participant guid))) x some = absurd (let bad = some in cc)
apart of_participant (Some (Ok (notice.Announced.Endpoint endpoint))) x some = refl

-- an act that announces an endpoint announces no participant
no_process_told : (act : values.ActValue) (endpoint : endpoint.EndpointValue) → introducing.endpoint_told act ≡ Some endpoint → introducing.process_told act ≡ None
no_process_told act endpoint some = apart _ (notice.announcement_of act) endpoint some

-- ---- one endpoint more

endpoints_more : (acts : List values.ActValue) (act : values.ActValue) → filter_map introducing.endpoint_told (acts ++ act ∷ []) ≡ filter_map introducing.endpoint_told acts ++ cons_option (introducing.endpoint_told act) []
endpoints_more acts act = filter_map-append introducing.endpoint_told acts (act ∷ [])

tellers_more : (acts : List values.ActValue) (act : values.ActValue) (guid : Guid) → introducing.is_teller_among (acts ++ act ∷ []) guid ≡ (introducing.is_teller_among acts guid || list_any (introducing.is_teller guid) (cons_option (introducing.endpoint_told act) []))
tellers_more acts act guid = ap (list_any (introducing.is_teller guid)) (endpoints_more acts act) ∙ list_any-append (introducing.is_teller guid) (filter_map introducing.endpoint_told acts) (cons_option (introducing.endpoint_told act) [])

names_more : (acts : List values.ActValue) (act : values.ActValue) (prefix : GuidPrefix)
    → services_spec.names_of (introducing.service_names (acts ++ act ∷ []) prefix) ≡ fold services_spec.with_name (services_spec.names_of (introducing.service_names acts prefix)) (flat_map (introducing.names_by prefix) (cons_option (introducing.endpoint_told act) []))
names_more acts act prefix =
    ap (λ l. services_spec.names_of (flat_map (introducing.names_by prefix) l)) (endpoints_more acts act)
    ∙ ap services_spec.names_of (flat_map-append (introducing.names_by prefix) (filter_map introducing.endpoint_told acts) (cons_option (introducing.endpoint_told act) []))
    ∙ fold-append services_spec.with_name None (introducing.service_names acts prefix) (flat_map (introducing.names_by prefix) (cons_option (introducing.endpoint_told act) []))

-- the processes after an act that announces none
processes_same : (acts : List values.ActValue) (act : values.ActValue) (old new : Introductions) → introducing.process_told act ≡ None → new.processes.entries ≡ old.processes.entries → introducing.IsIntroducedBy acts old
    → (guid : Guid) → option_map processes.process_value (announcing.first_of guid new.processes.entries) ≡ announcing.first_of guid (filter_map introducing.process_told (acts ++ act ∷ []))
processes_same acts act old new none same were = told_more processes.process_value introducing.process_told acts act old.processes.entries new.processes.entries None (sym none) same were.processes

pub endpoint_noted : (acts : List values.ActValue) (act : values.ActValue) (old new : Introductions) (endpoint : endpoint.EndpointValue) → Some endpoint ≡ introducing.endpoint_told act → introducing.KeepsEndpoint old new endpoint
    → introducing.IsIntroducedBy acts old → introducing.IsIntroducedBy (acts ++ act ∷ []) new
endpoint_noted acts act old new endpoint is kept were =
    record {
      processes = processes_same acts act old new (no_process_told act endpoint (sym is)) kept.processes were;
      tellers = λ guid. kept.tellers guid ∙ ap (λ b. b || introducing.is_teller guid endpoint) (were.tellers guid)
          ∙ ap (λ b. introducing.is_teller_among acts guid || b) (sym (or-false (introducing.is_teller guid endpoint)))
          ∙ ap (λ e. introducing.is_teller_among acts guid || list_any (introducing.is_teller guid) (cons_option e [])) is ∙ sym (tellers_more acts act guid);
      services = λ prefix. kept.services prefix ∙ ap (λ n. fold services_spec.with_name n (introducing.names_by prefix endpoint)) (were.services prefix)
          ∙ ap (fold services_spec.with_name (services_spec.names_of (introducing.service_names acts prefix))) (sym (append-nil (introducing.names_by prefix endpoint)))
          ∙ ap (λ e. fold services_spec.with_name (services_spec.names_of (introducing.service_names acts prefix)) (flat_map (introducing.names_by prefix) (cons_option e []))) is ∙ sym (names_more acts act prefix);
    }

-- the writers and names after an act that announces no endpoint
tellers_same : (acts : List values.ActValue) (act : values.ActValue) (guid : Guid) → None ≡ introducing.endpoint_told act → introducing.is_teller_among acts guid ≡ introducing.is_teller_among (acts ++ act ∷ []) guid
tellers_same acts act guid none =
    sym (or-false (introducing.is_teller_among acts guid)) ∙ ap (λ e. introducing.is_teller_among acts guid || list_any (introducing.is_teller guid) (cons_option e [])) none ∙ sym (tellers_more acts act guid)

names_same : (acts : List values.ActValue) (act : values.ActValue) (prefix : GuidPrefix) → None ≡ introducing.endpoint_told act → services_spec.names_of (introducing.service_names acts prefix) ≡ services_spec.names_of (introducing.service_names (acts ++ act ∷ []) prefix)
names_same acts act prefix none =
    ap (λ e. fold services_spec.with_name (services_spec.names_of (introducing.service_names acts prefix)) (flat_map (introducing.names_by prefix) (cons_option e []))) none ∙ sym (names_more acts act prefix)

pub participant_noted : (acts : List values.ActValue) (act : values.ActValue) (old new : Introductions) (guid : Guid) (process : Process) → None ≡ introducing.endpoint_told act
    → Some (guid, processes.process_value process) ≡ introducing.process_told act → told_spec.KeepsFirst old.processes.entries new.processes.entries guid process → new.tellers ≡ old.tellers
    → new.services ≡ old.services → introducing.IsIntroducedBy acts old → introducing.IsIntroducedBy (acts ++ act ∷ []) new
participant_noted acts act old new guid process none is kept tellers services were =
    record {
      processes = told_more processes.process_value introducing.process_told acts act old.processes.entries new.processes.entries (Some (guid, process)) is kept were.processes;
      tellers = λ other. ap (λ t. contains guid_order.guid_cmp t other) tellers ∙ were.tellers other ∙ tellers_same acts act other none;
      services = λ prefix. ap (λ s. option_map services_spec.service_value (lookup (is_at (introducing.prefix_cmp prefix)) s.entries)) services ∙ were.services prefix ∙ names_same acts act prefix none;
    }

pub nothing_noted : (acts : List values.ActValue) (act : values.ActValue) (old : Introductions) → None ≡ introducing.endpoint_told act → None ≡ introducing.process_told act → introducing.IsIntroducedBy acts old
    → introducing.IsIntroducedBy (acts ++ act ∷ []) old
nothing_noted acts act old none no_process were =
    record {
      processes = processes_same acts act old old (sym no_process) refl were;
      tellers = λ other. were.tellers other ∙ tellers_same acts act other none;
      services = λ prefix. were.services prefix ∙ names_same acts act prefix none;
    }
