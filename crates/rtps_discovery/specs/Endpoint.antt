-- Endpoints. own: with lists of octets in place of borrowed slices, so that two are equal if their octets are.
use Rattle.std.specs.Prelude.{ℕ, List}
use Rattle.rtps_ids.specs.declared.identity.Guid.{Guid}
use Rattle.rtps_discovery.specs.declared.endpoint.Durability.{Durability}
use Rattle.rtps_discovery.specs.declared.endpoint.Endpoint.{Endpoint}
use Rattle.rtps_discovery.specs.declared.endpoint.Reliability.{Reliability}
use Rattle.rtps_discovery.specs.declared.endpoint.Side.{Side}

-- a writer or a reader as it is announced
pub record EndpointValue : Type 0 where
  pub guid : Guid
  pub side : Side
  pub topic : List ℕ
  pub type_name : List ℕ
  pub reliability : Reliability
  pub durability : Durability

-- what an endpoint of the code stands for
abbrev pub endpoint_value : Endpoint → EndpointValue
endpoint_value endpoint =
    record {
      guid = endpoint.guid;
      side = endpoint.side;
      topic = endpoint.topic.now;
      type_name = endpoint.type_name.now;
      reliability = endpoint.reliability;
      durability = endpoint.durability;
    }
