-- Two endpoints that are equal in the six fields.
use Rattle.std.proofs.Common.{◌≡◌, ◌≢◌, Bool, true, false, ◌&&◌, MatchBool, Decides, refl, rules, nat_eq, ap, ℕ, List}
use Rattle.std.specs.Cmp.Lexicographic.{pointwise, bytes_decides}
use Rattle.std.proofs.lemmas.Bool.{false≢true}
use Rattle.std.proofs.lemmas.Bool.Decides.{Decides-and, Decides-like}
use denote.Enum.Bare.{sameb, same_true, true_same}
use Rattle.rtps_ids.specs.declared.identity.Guid.{Guid}
use Rattle.rtps_discovery.specs.Endpoint as endpoint
use Rattle.rtps_discovery.specs.declared.endpoint.Durability.{Durability}
use Rattle.rtps_discovery.specs.declared.endpoint.Endpoint.{Endpoint}
use Rattle.rtps_discovery.specs.declared.endpoint.Reliability.{Reliability}
use Rattle.rtps_discovery.specs.declared.endpoint.Side.{Side}
use Rattle.rtps_discovery.specs.contracts.endpoint.Side as side
use Rattle.rtps_discovery.specs.contracts.endpoint.Reliability as reliability
use Rattle.rtps_discovery.specs.contracts.endpoint.Durability as durability
use Rattle.rtps_discovery.proofs.GuidLaws.{same_guid}

side_decides : (a b : Side) → Decides (sameb side.the_type a b) (a ≡ b)
side_decides a b = (same_true side.the_type (search rules) a b, true_same side.the_type a b)

reliability_decides : (a b : Reliability) → Decides (sameb reliability.the_type a b) (a ≡ b)
reliability_decides a b = (same_true reliability.the_type (search rules) a b, true_same reliability.the_type a b)

durability_decides : (a b : Durability) → Decides (sameb durability.the_type a b) (a ≡ b)
durability_decides a b = (same_true durability.the_type (search rules) a b, true_same durability.the_type a b)

abbrev pub same_octets : Guid → Guid → Bool
same_octets a b = pointwise nat_eq a.prefix.0 b.prefix.0 && pointwise nat_eq a.entity.0 b.entity.0

pub same_octets_decides : (a b : Guid) → Decides (same_octets a b) (a ≡ b)
same_octets_decides a b =
    Decides-like _ (λ h. same_guid a b h.0 h.1) (λ e. (ap (λ (x : Guid). x.prefix.0) e, ap (λ (x : Guid). x.entity.0) e))
    (Decides-and _ _ (bytes_decides a.prefix.0 b.prefix.0) (bytes_decides a.entity.0 b.entity.0))

-- the test of the six fields
abbrev pub same_value : endpoint.EndpointValue → endpoint.EndpointValue → Bool
same_value a b =
    same_octets a.guid b.guid && (sameb side.the_type a.side b.side && (pointwise nat_eq a.topic b.topic && (pointwise nat_eq a.type_name b.type_name
    && (sameb reliability.the_type a.reliability b.reliability && sameb durability.the_type a.durability b.durability))))

six_fields : (a b : endpoint.EndpointValue) → a.guid ≡ b.guid → a.side ≡ b.side → a.topic ≡ b.topic → a.type_name ≡ b.type_name → a.reliability ≡ b.reliability → a.durability ≡ b.durability → a ≡ b
six_fields a b guid side topic type_name reliability durability =
    let same : (a.guid, a.side, a.topic, a.type_name, a.reliability, a.durability) ≡ (b.guid, b.side, b.topic, b.type_name, b.reliability, b.durability) = cc in
    ap (λ (x : Guid × Side × List ℕ × List ℕ × Reliability × Durability).
    let value : endpoint.EndpointValue = record { guid = x.0; side = x.1; topic = x.2; type_name = x.3; reliability = x.4; durability = x.5 } in value) same

pub value_decides : (a b : endpoint.EndpointValue) → Decides (same_value a b) (a ≡ b)
value_decides a b =
    Decides-like _ (λ h. six_fields a b h.0 h.1.0 h.1.1.0 h.1.1.1.0 h.1.1.1.1.0 h.1.1.1.1.1)
    (λ e. (
      ap (λ (x : endpoint.EndpointValue). x.guid) e,
      (
        ap (λ (x : endpoint.EndpointValue). x.side) e,
        (
          ap (λ (x : endpoint.EndpointValue). x.topic) e,
          (
            ap (λ (x : endpoint.EndpointValue). x.type_name) e,
            (ap (λ (x : endpoint.EndpointValue). x.reliability) e, ap (λ (x : endpoint.EndpointValue). x.durability) e),
          ),
        ),
      ),
    ))
    (Decides-and _ _ (same_octets_decides a.guid b.guid) (Decides-and _ _ (side_decides a.side b.side) (Decides-and _ _ (bytes_decides a.topic b.topic)
    (Decides-and _ _ (bytes_decides a.type_name b.type_name) (Decides-and _ _ (reliability_decides a.reliability b.reliability) (durability_decides a.durability b.durability))))))

match_from_decides : {P : Type 0} (r : Bool) → Decides r P → MatchBool r P (¬ P)
match_from_decides true h = h.0 refl
match_from_decides false h = λ p. false≢true (h.1 p)

pub same_decides : (a b : Endpoint) → MatchBool (same_value (endpoint.endpoint_value a) (endpoint.endpoint_value b)) (endpoint.endpoint_value a ≡ endpoint.endpoint_value b) (endpoint.endpoint_value a ≢ endpoint.endpoint_value b)
same_decides a b = match_from_decides _ (value_decides (endpoint.endpoint_value a) (endpoint.endpoint_value b))
