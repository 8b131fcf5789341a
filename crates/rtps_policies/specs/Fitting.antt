-- Which policies of a writer and a reader suit each other: what is offered against what is requested. DDS 1.4, 2.2.3 "Supported QoS"; each
-- policy has its clause.
use Rattle.std.specs.Prelude.{◌≡◌, ◌≤◌, ◌==◌, ◌&&◌, ◌||◌, Any, Bool, IsTrue, List, [], ◌∷◌, filter, nat_eq, nat_le, not}
use Rattle.std.specs.Cmp.Lexicographic.{pointwise}
use Rattle.std.specs.List.{list_any}
use Rattle.rtps_discovery.specs.Endpoint as endpoint
use Rattle.rtps_discovery.specs.Matching as matching
use Rattle.rtps_policies.specs.Durations as durations
use Rattle.rtps_policies.specs.NamePatterns as name_patterns
use Rattle.rtps_policies.specs.Policies as policies
use Rattle.rtps_policies.specs.Ranks as ranks
use Rattle.rtps_policies.specs.Views as views
use Rattle.rtps_policies.specs.declared.fitting.Policy.{Policy}
use Rattle.rtps_policies.specs.declared.fitting.Profile.{Profile}
use Rattle.rtps_policies.specs.declared.host.Host.{Host}
use Rattle.rtps_policies.specs.declared.liveliness.Liveliness.{Liveliness}
use Rattle.rtps_policies.specs.declared.presentation.Presentation.{Presentation}

-- an endpoint with all its policies, and the host of its participant
pub record ProfileValue : Type 0 where
  pub endpoint : endpoint.EndpointValue
  pub policies : policies.PoliciesValue
  pub host : Host

-- what a profile of the code stands for
abbrev pub profile_value : Profile → ProfileValue
profile_value profile = record { endpoint = endpoint.endpoint_value profile.endpoint; policies = policies.policies_value profile.policies; host = profile.host }

-- what is offered of liveliness is as strong as what is requested, and its lease is no longer (DDS 1.4, 2.2.3.11)
pub record LivelinessSuits (offered requested : Liveliness) : Type 0 where
  pub kind : ranks.liveliness_rank requested.kind ≤ ranks.liveliness_rank offered.kind
  pub lease : durations.IsWithin offered.lease requested.lease

-- what is offered of presentation reaches as far, and has what is requested of coherent and ordered access (DDS 1.4, 2.2.3.6)
pub record PresentationSuits (offered requested : Presentation) : Type 0 where
  pub scope : ranks.scope_rank requested.scope ≤ ranks.scope_rank offered.scope
  pub coherent : IsTrue requested.coherent → IsTrue offered.coherent
  pub ordered : IsTrue requested.ordered → IsTrue offered.ordered

-- what a writer offers of a policy suits what a reader requests
abbrev pub Suits : Policy → ProfileValue → ProfileValue → Type 0
-- as reliable as is requested (DDS 1.4, 2.2.3.14)
Suits Policy.Reliability writer reader = matching.reliability_rank reader.endpoint.reliability ≤ matching.reliability_rank writer.endpoint.reliability
-- as durable as is requested (DDS 1.4, 2.2.3.4)
Suits Policy.Durability writer reader = matching.durability_rank reader.endpoint.durability ≤ matching.durability_rank writer.endpoint.durability
-- no longer than is requested (DDS 1.4, 2.2.3.7)
Suits Policy.Deadline writer reader = durations.IsWithin writer.policies.deadline reader.policies.deadline
-- no longer than is requested (DDS 1.4, 2.2.3.8)
Suits Policy.LatencyBudget writer reader = durations.IsWithin writer.policies.latency_budget reader.policies.latency_budget
Suits Policy.Liveliness writer reader = LivelinessSuits writer.policies.liveliness reader.policies.liveliness
-- the same (DDS 1.4, 2.2.3.9)
Suits Policy.Ownership writer reader = writer.policies.ownership ≡ reader.policies.ownership
-- as strong as is requested (DDS 1.4, 2.2.3.17)
Suits Policy.DestinationOrder writer reader = ranks.destination_order_rank reader.policies.destination_order ≤ ranks.destination_order_rank writer.policies.destination_order
Suits Policy.Presentation writer reader = PresentationSuits writer.policies.presentation reader.policies.presentation
-- some name of one fits some name of the other (DDS 1.4, 2.2.3.13)
Suits Policy.Partition writer reader = Any (λ one. Any (name_patterns.NamesFit one) reader.policies.partition) writer.policies.partition
-- what the writer sends is among what the reader takes (XTypes 1.3, 7.6.3.1.1)
Suits Policy.DataRepresentation writer reader = Any (λ own. own ≡ views.first_in writer.policies.representations) (views.accepted_in reader.policies.representations)
-- the same name (DDS 1.4, 2.2.2.3 "Topic-Definition Module"). own: types are not compared by their structure
Suits Policy.Type writer reader = writer.endpoint.type_name ≡ reader.endpoint.type_name

-- whether what is offered of liveliness suits
abbrev pub liveliness_suits : Liveliness → Liveliness → Bool
liveliness_suits offered requested = nat_le (ranks.liveliness_rank requested.kind) (ranks.liveliness_rank offered.kind) && durations.is_within offered.lease requested.lease

-- whether what is offered of presentation suits
abbrev pub presentation_suits : Presentation → Presentation → Bool
presentation_suits offered requested =
    nat_le (ranks.scope_rank requested.scope) (ranks.scope_rank offered.scope)
    && ((not requested.coherent || offered.coherent) && (not requested.ordered || offered.ordered))

-- whether what a writer offers of a policy suits what a reader requests. That it says what `Suits` says is a law
abbrev pub suits : Policy → ProfileValue → ProfileValue → Bool
suits Policy.Reliability writer reader = nat_le (matching.reliability_rank reader.endpoint.reliability) (matching.reliability_rank writer.endpoint.reliability)
suits Policy.Durability writer reader = nat_le (matching.durability_rank reader.endpoint.durability) (matching.durability_rank writer.endpoint.durability)
suits Policy.Deadline writer reader = durations.is_within writer.policies.deadline reader.policies.deadline
suits Policy.LatencyBudget writer reader = durations.is_within writer.policies.latency_budget reader.policies.latency_budget
suits Policy.Liveliness writer reader = liveliness_suits writer.policies.liveliness reader.policies.liveliness
suits Policy.Ownership writer reader = ranks.is_same_ownership writer.policies.ownership reader.policies.ownership
suits Policy.DestinationOrder writer reader = nat_le (ranks.destination_order_rank reader.policies.destination_order) (ranks.destination_order_rank writer.policies.destination_order)
suits Policy.Presentation writer reader = presentation_suits writer.policies.presentation reader.policies.presentation
suits Policy.Partition writer reader = list_any (λ one. list_any (name_patterns.names_fit one) reader.policies.partition) writer.policies.partition
suits Policy.DataRepresentation writer reader = list_any (λ own. own == views.first_in writer.policies.representations) (views.accepted_in reader.policies.representations)
suits Policy.Type writer reader = pointwise nat_eq writer.endpoint.type_name reader.endpoint.type_name

-- all policies, in the order in which they are told
abbrev pub table : List Policy
table =
    Policy.Reliability ∷ Policy.Durability ∷ Policy.Deadline ∷ Policy.LatencyBudget ∷ Policy.Liveliness ∷ Policy.Ownership
    ∷ Policy.DestinationOrder ∷ Policy.Presentation ∷ Policy.Partition ∷ Policy.DataRepresentation ∷ Policy.Type ∷ []

-- the policies that do not suit, in the table's order
abbrev pub reasons : ProfileValue → ProfileValue → List Policy
reasons writer reader = filter (λ policy. not (suits policy writer reader)) table
