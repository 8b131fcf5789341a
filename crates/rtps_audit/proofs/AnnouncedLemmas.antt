-- Where acts announce endpoints, one act after another.
use Rattle.std.proofs.Common.{◌≡◌, ◌∙◌, ℕ, Bool, true, false, cond, List, [], ◌∷◌, ◌++◌, append_assoc, Option, Some, None, sym, ap}
use Rattle.std.specs.List.{cons_option}
use Rattle.std.specs.Ordering.{is_eq}
use Rattle.std.proofs.lemmas.List.Elements.{filter_map-append}
use Rattle.rtps_ids.specs.declared.identity.Guid.{Guid}
use Rattle.rtps_discovery.specs.Endpoint as endpoint_spec
use Rattle.rtps_discovery.specs.GuidOrder as guid_order
use Rattle.rtps_discovery.specs.declared.endpoint.Endpoint.{Endpoint}
use Rattle.rtps_audit.specs.Placed as placed
use Rattle.rtps_audit.specs.declared.announced_places.AnnouncedPlace.{AnnouncedPlace}
use Rattle.rtps_audit.proofs.PlacedLemmas.{is_eq-guid_cmp}

pub none_announced : (datagram at : ℕ) (guid : Guid) (found : Option endpoint_spec.EndpointValue) → None ≡ found → placed.announced_at datagram at guid found ≡ None
none_announced datagram at guid found is = ap (placed.announced_at datagram at guid) (sym is)

pub one_announced : (datagram at : ℕ) (guid : Guid) (endpoint : Endpoint) (found : Option endpoint_spec.EndpointValue) → Some (endpoint_spec.endpoint_value endpoint) ≡ found
    → placed.announced_at datagram at guid found ≡ cond (is_eq (guid_order.guid_cmp guid endpoint.guid)) (Some (record { datagram = datagram; at = at })) None
one_announced datagram at guid endpoint found is =
    ap (placed.announced_at datagram at guid) (sym is)
    ∙ ap (λ b. let place : Option AnnouncedPlace = Some (record { datagram = datagram; at = at }) in cond b place None) (sym (is_eq-guid_cmp guid endpoint.guid))

-- one place more, where there is one
pub place_added : (found : Option AnnouncedPlace) (is_its : Bool) (place : AnnouncedPlace) → found ≡ cond is_its (Some place) None → cond is_its (place ∷ []) [] ≡ cons_option found []
place_added found true place is = ap (λ o. cons_option o []) (sym is)
place_added found false place is = ap (λ o. cons_option o []) (sym is)

pub places_joined : (guid : Guid) (old mid new : List AnnouncedPlace) (xs ys : List placed.PlacedValue) → mid ≡ old ++ placed.announced_among guid xs → new ≡ mid ++ placed.announced_among guid ys → new ≡ old ++ placed.announced_among guid (xs ++ ys)
places_joined guid old mid new xs ys one two =
    two ∙ ap (λ l. l ++ placed.announced_among guid ys) one ∙ append_assoc old (placed.announced_among guid xs) (placed.announced_among guid ys) ∙ ap (λ l. old ++ l) (sym (filter_map-append (placed.announced_of guid) xs ys))
