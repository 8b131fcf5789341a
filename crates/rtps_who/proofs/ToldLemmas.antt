-- One act more, of samples and of services: what is told last counts, and names are added.
use Rattle.std.proofs.Common.{◌≡◌, ◌∙◌, Bool, true, false, ◌||◌, ◌&&◌, cond, if◌then◌else◌, List, [], ◌∷◌, ◌++◌, Option, Some, None, IfOk, Result, Ok, Err, ℕ, ap, append-nil, fold, refl, sym}
use Rattle.std.specs.BTreeMap.{is_at}
use Rattle.std.specs.BTreeSet.{BTreeSet, contains}
use Rattle.std.specs.List.{cons_option, filter_map}
use Rattle.std.specs.Map.{lookup}
use Rattle.std.specs.Option.{option_map, option_or, option_to_list}
use Rattle.std.specs.Ordering.{is_eq}
use Rattle.std.proofs.Math.Bool.{or-false}
use Rattle.std.proofs.lemmas.Grind.{flat_map-append}
use Rattle.std.proofs.lemmas.List.{reverse-append}
use Rattle.std.proofs.lemmas.List.Elements.{filter_map-append}
use Rattle.std.proofs.lemmas.Map.Views.{tells_apart}
use Rattle.rtps_ids.specs.declared.identity.Guid.{Guid}
use Rattle.rtps_ids.specs.declared.identity.GuidPrefix.{GuidPrefix}
use Rattle.rtps_receiver.specs.Values as values
use Rattle.rtps_discovery.specs.Endpoint as endpoint
use Rattle.rtps_discovery.specs.GuidOrder as guid_order
use Rattle.rtps_who.specs.Introducing as introducing
use Rattle.rtps_who.specs.Listings as listings
use Rattle.rtps_who.specs.Samples as samples
use Rattle.rtps_who.specs.Services as services
use Rattle.rtps_who.specs.Telling as telling
use Rattle.rtps_who.specs.declared.sample.Sample.{Sample}
use Rattle.rtps_who.specs.declared.service.Service.{Service}
use Rattle.rtps_who.specs.declared.told_nodes.ToldNodes.{ToldNodes}
use Rattle.rtps_who.proofs.IdLemmas.{exact_prefixes, prefixes_alike}
use Rattle.rtps_who.proofs.ListingLemmas.{last_append}

-- what follows from what success gives
pub if_ok : {X E : Type 0} (P Q : X → Type 0) (r : Result X E) → ((x : X) → P x → Q x) → IfOk r P → IfOk r Q
if_ok P Q (Ok x) follows holds = follows x holds
if_ok P Q (Err e) follows holds = tt

-- ---- writers that tell of nodes

either : (same old : Bool) → cond same true old ≡ (old || same)
either true true = refl
either true false = refl
either false true = refl
either false false = refl

pub teller_same : (old : BTreeSet Guid) (endpoint : endpoint.EndpointValue) → introducing.tells_nodes endpoint ≡ false → introducing.KeepsTeller old old endpoint
teller_same old endpoint silent guid = sym (or-false (contains guid_order.guid_cmp old guid)) ∙ ap (λ b. contains guid_order.guid_cmp old guid || (b && is_eq (guid_order.guid_cmp endpoint.guid guid))) (sym silent)

pub teller_more : (old new : BTreeSet Guid) (endpoint : endpoint.EndpointValue) → introducing.tells_nodes endpoint ≡ true
    → ((guid : Guid) → contains guid_order.guid_cmp new guid ≡ cond (is_eq (guid_order.guid_cmp endpoint.guid guid)) true (contains guid_order.guid_cmp old guid)) → introducing.KeepsTeller old new endpoint
teller_more old new endpoint tells updates guid =
    updates guid ∙ either (is_eq (guid_order.guid_cmp endpoint.guid guid)) (contains guid_order.guid_cmp old guid) ∙ ap (λ b. contains guid_order.guid_cmp old guid || (b && is_eq (guid_order.guid_cmp endpoint.guid guid))) (sym tells)

-- ---- names by services

pub service_same : (old : List (GuidPrefix × Service)) (endpoint : endpoint.EndpointValue) → services.service_of endpoint ≡ None → introducing.KeepsService old old endpoint
service_same old endpoint none prefix = by (is_at (introducing.prefix_cmp endpoint.guid.prefix) prefix)
  where
    by : (b : Bool) → option_map services.service_value (lookup (is_at (introducing.prefix_cmp prefix)) old)
        ≡ fold services.with_name (option_map services.service_value (lookup (is_at (introducing.prefix_cmp prefix)) old)) (if b then option_to_list (services.service_of endpoint) else [])
    by true = ap (λ s. fold services.with_name (option_map services.service_value (lookup (is_at (introducing.prefix_cmp prefix)) old)) (option_to_list s)) (sym none)
    by false = refl

pub service_more : (old new : List (GuidPrefix × Service)) (endpoint : endpoint.EndpointValue) (name : List ℕ) (kept : Option Service) (more : Service) → Some name ≡ services.service_of endpoint
    → kept ≡ lookup (is_at (introducing.prefix_cmp endpoint.guid.prefix)) old → Some (services.service_value more) ≡ services.with_name (option_map services.service_value kept) name
    → ((prefix : GuidPrefix) → lookup (is_at (introducing.prefix_cmp prefix)) new ≡ cond (is_at (introducing.prefix_cmp endpoint.guid.prefix) prefix) (Some more) (lookup (is_at (introducing.prefix_cmp prefix)) old))
    → introducing.KeepsService old new endpoint
service_more old new endpoint name kept more named kept_is more_is updates prefix =
    ap (option_map services.service_value) (updates prefix) ∙ by (is_at (introducing.prefix_cmp endpoint.guid.prefix) prefix) refl
  where
    by : (b : Bool) → is_at (introducing.prefix_cmp endpoint.guid.prefix) prefix ≡ b
        → option_map services.service_value (cond b (Some more) (lookup (is_at (introducing.prefix_cmp prefix)) old))
        ≡ fold services.with_name (option_map services.service_value (lookup (is_at (introducing.prefix_cmp prefix)) old)) (if b then option_to_list (services.service_of endpoint) else [])
    by true same =
        let one : endpoint.guid.prefix ≡ prefix = tells_apart exact_prefixes endpoint.guid.prefix prefix same in
        more_is ∙ ap (λ o. services.with_name (option_map services.service_value o) name) (kept_is ∙ ap (λ p. lookup (is_at (introducing.prefix_cmp p)) old) one)
        ∙ ap (λ s. fold services.with_name (option_map services.service_value (lookup (is_at (introducing.prefix_cmp prefix)) old)) (option_to_list s)) named
    by false differs = refl

-- ---- samples

told_more_is : (announcing acts : List values.ActValue) (act : values.ActValue) → filter_map (telling.nodes_told announcing) (acts ++ act ∷ []) ≡ filter_map (telling.nodes_told announcing) acts ++ cons_option (telling.nodes_told announcing act) []
told_more_is announcing acts act = filter_map-append (telling.nodes_told announcing) acts (act ∷ [])

-- what is told where an act tells nothing
told_same : (announcing acts : List values.ActValue) (act : values.ActValue) → None ≡ telling.nodes_told announcing act → filter_map (telling.nodes_told announcing) acts ≡ filter_map (telling.nodes_told announcing) (acts ++ act ∷ [])
told_same announcing acts act none =
    sym (append-nil (filter_map (telling.nodes_told announcing) acts)) ∙ ap (λ o. filter_map (telling.nodes_told announcing) acts ++ cons_option o []) none ∙ sym (told_more_is announcing acts act)

-- and where it tells a sample
told_with : (announcing acts : List values.ActValue) (act : values.ActValue) (told : GuidPrefix × samples.SampleValue) → Some told ≡ telling.nodes_told announcing act
    → filter_map (telling.nodes_told announcing) acts ++ told ∷ [] ≡ filter_map (telling.nodes_told announcing) (acts ++ act ∷ [])
told_with announcing acts act told is = ap (λ o. filter_map (telling.nodes_told announcing) acts ++ cons_option o []) is ∙ sym (told_more_is announcing acts act)

pub nothing_told : (announcing acts : List values.ActValue) (act : values.ActValue) (told : ToldNodes) → None ≡ telling.nodes_told announcing act → telling.IsToldBy announcing acts told → telling.IsToldBy announcing (acts ++ act ∷ []) told
nothing_told announcing acts act told none were =
    record {
      samples = λ prefix. were.samples prefix ∙ ap (telling.last_of prefix) (told_same announcing acts act none);
      listed = λ guid. were.listed guid ∙ ap (λ samples. listings.last_listed guid (listings.listings_among samples)) (told_same announcing acts act none);
    }

last_push : {X : Type 0} (prefix : GuidPrefix) (told : List (GuidPrefix × X)) (one : GuidPrefix × X)
    → telling.last_of prefix (told ++ one ∷ []) ≡ cond (is_at (introducing.prefix_cmp prefix) one.0) (Some one.1) (telling.last_of prefix told)
last_push prefix told one = ap (lookup (is_at (introducing.prefix_cmp prefix))) (reverse-append told (one ∷ []))

-- the listings of one sample more
listings_push : (guid : Guid) (told : List (GuidPrefix × samples.SampleValue)) (one : GuidPrefix × samples.SampleValue)
    → option_or (listings.last_listed guid (listings.listings_in one.0 one.1)) (listings.last_listed guid (listings.listings_among told)) ≡ listings.last_listed guid (listings.listings_among (told ++ one ∷ []))
listings_push guid told one =
    sym (last_append guid (listings.listings_among told) (listings.listings_in one.0 one.1))
    ∙ ap (λ l. listings.last_listed guid (listings.listings_among told ++ l)) (sym (append-nil (listings.listings_in one.0 one.1)))
    ∙ ap (listings.last_listed guid) (sym (flat_map-append (λ (t : GuidPrefix × samples.SampleValue). listings.listings_in t.0 t.1) told (one ∷ [])))

pub sample_told : (announcing acts : List values.ActValue) (act : values.ActValue) (old new : ToldNodes) (source : GuidPrefix) (sample : Sample) → Some (source, samples.sample_value sample) ≡ telling.nodes_told announcing act
    → ((prefix : GuidPrefix) → lookup (is_at (introducing.prefix_cmp prefix)) new.samples.entries ≡ cond (is_at (introducing.prefix_cmp source) prefix) (Some sample) (lookup (is_at (introducing.prefix_cmp prefix)) old.samples.entries))
    → listings.Lists old.listed.entries new.listed.entries (listings.listings_in source (samples.sample_value sample)) → telling.IsToldBy announcing acts old → telling.IsToldBy announcing (acts ++ act ∷ []) new
sample_told announcing acts act old new source sample is updates lists were =
    let told = filter_map (telling.nodes_told announcing) acts in
    let more = told_with announcing acts act (source, samples.sample_value sample) is in
    record {
      samples = λ prefix. ap (option_map samples.sample_value) (updates prefix) ∙ one prefix (is_at (introducing.prefix_cmp source) prefix)
          ∙ ap (λ x. cond (is_at (introducing.prefix_cmp source) prefix) (Some (samples.sample_value sample)) x) (were.samples prefix)
          ∙ ap (λ b. cond b (Some (samples.sample_value sample)) (telling.nodes_by announcing acts prefix)) (prefixes_alike source prefix)
          ∙ sym (last_push prefix told (source, samples.sample_value sample)) ∙ ap (telling.last_of prefix) more;
      listed = λ guid. lists guid ∙ ap (option_or (listings.last_listed guid (listings.listings_in source (samples.sample_value sample)))) (were.listed guid)
          ∙ listings_push guid told (source, samples.sample_value sample) ∙ ap (λ samples. listings.last_listed guid (listings.listings_among samples)) more;
    }
  where
    one : (prefix : GuidPrefix) (b : Bool) → option_map samples.sample_value (cond b (Some sample) (lookup (is_at (introducing.prefix_cmp prefix)) old.samples.entries))
        ≡ cond b (Some (samples.sample_value sample)) (option_map samples.sample_value (lookup (is_at (introducing.prefix_cmp prefix)) old.samples.entries))
    one prefix true = refl
    one prefix false = refl
