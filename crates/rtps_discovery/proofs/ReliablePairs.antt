-- The reliable pairs are those among the reliable endpoints.
use Rattle.std.proofs.Common.{◌≡◌, Bool, true, false, List, [], ◌∷◌, ◌++◌, map, filter, flat_map, refl, sym, ◌∙◌, ap, cond}
use Rattle.std.proofs.lemmas.List.Elements.{filter-append}
use Rattle.std.proofs.lemmas.List.{map-append}
use Rattle.rtps_discovery.specs.Endpoint as endpoint
use Rattle.rtps_discovery.specs.Matching as matching
use Rattle.rtps_discovery.specs.declared.endpoint.Endpoint.{Endpoint}
use Rattle.rtps_discovery.specs.declared.matching.Match.{Match}
use Rattle.rtps_discovery.proofs.Listing.{filter-map}

abbrev keep : endpoint.EndpointValue → Bool
keep endpoint = matching.is_reliable endpoint.reliability

pairs-append : (xs ys : List Match) → matching.reliable_pairs (xs ++ ys) ≡ matching.reliable_pairs xs ++ matching.reliable_pairs ys
pairs-append xs ys = ap (map (λ (found : Match). found.pair)) (filter-append (λ (found : Match). found.reliable) xs ys) ∙ map-append (λ (found : Match). found.pair) (filter (λ (found : Match). found.reliable) xs) (filter (λ (found : Match). found.reliable) ys)

-- one endpoint more that a writer is compared with: it matches or not, the writer is reliable or not, and the endpoint is or not
one_more : (w m e : Bool) (writer reader : endpoint.EndpointValue) → keep writer ≡ w → matching.is_match writer reader ≡ m → keep reader ≡ e
    → (readers less : List endpoint.EndpointValue)
    → matching.reliable_pairs (matching.matches_of writer readers) ≡ cond w (matching.reliable_pairs (matching.matches_of writer less)) []
    → matching.reliable_pairs (map (matching.match_of writer) (cond m (reader ∷ filter (matching.is_match writer) readers) (filter (matching.is_match writer) readers)))
    ≡ cond w (matching.reliable_pairs (matching.matches_of writer (cond e (reader ∷ less) less))) []
one_more true true true writer reader hw hm he readers less h = rw (hm, he, hw) (ap (λ pairs. record { writer = writer.guid; reader = reader.guid } ∷ pairs) h)
one_more true true false writer reader hw hm he readers less h = rw (hw, he) h
one_more true false true writer reader hw hm he readers less h = rw hm h
one_more true false false writer reader hw hm he readers less h = h
one_more false true e writer reader hw hm he readers less h = rw hw h
one_more false false e writer reader hw hm he readers less h = h

of_none : (w : Bool) → matching.reliable_pairs [] ≡ cond w (matching.reliable_pairs []) []
of_none true = refl
of_none false = refl

-- a writer's
of_writer : (writer : endpoint.EndpointValue) (readers : List endpoint.EndpointValue) → matching.reliable_pairs (matching.matches_of writer readers) ≡ cond (keep writer) (matching.reliable_pairs (matching.matches_of writer (filter keep readers))) []
of_writer writer [] = of_none (keep writer)
of_writer writer (reader ∷ readers) =
    one_more (keep writer) (matching.is_match writer reader) (keep reader) writer reader refl refl refl readers (filter keep readers) (of_writer writer readers)

abbrev among : List endpoint.EndpointValue → List endpoint.EndpointValue → List Match
among all writers = flat_map (λ writer. matching.matches_of writer all) writers

-- one writer more
next : (w : Bool) (writer : endpoint.EndpointValue) (all writers : List endpoint.EndpointValue) → keep writer ≡ w
    → matching.reliable_pairs (among all writers) ≡ matching.reliable_pairs (among (filter keep all) (filter keep writers))
    → matching.reliable_pairs (matching.matches_of writer all) ++ matching.reliable_pairs (among all writers) ≡ matching.reliable_pairs (among (filter keep all) (cond w (writer ∷ filter keep writers) (filter keep writers)))
next true writer all writers is h =
    rw (of_writer writer all, is, h) (sym (pairs-append (matching.matches_of writer (filter keep all)) (among (filter keep all) (filter keep writers))))
next false writer all writers is h = rw (of_writer writer all, is) h

in_turn : (all writers : List endpoint.EndpointValue) → matching.reliable_pairs (among all writers) ≡ matching.reliable_pairs (among (filter keep all) (filter keep writers))
in_turn all [] = refl
in_turn all (writer ∷ writers) = pairs-append (matching.matches_of writer all) (among all writers) ∙ next (keep writer) writer all writers refl (in_turn all writers)

pub of_the_reliable : (endpoints : List Endpoint)
    → matching.reliable_pairs (matching.matches_among (map endpoint.endpoint_value (filter (λ endpoint. matching.is_reliable endpoint.reliability) endpoints))) ≡ matching.reliable_pairs (matching.matches_among (map endpoint.endpoint_value endpoints))
of_the_reliable endpoints =
    ap (λ kept. matching.reliable_pairs (matching.matches_among kept)) (sym (filter-map keep endpoint.endpoint_value endpoints))
    ∙ sym (in_turn (map endpoint.endpoint_value endpoints) (map endpoint.endpoint_value endpoints))
