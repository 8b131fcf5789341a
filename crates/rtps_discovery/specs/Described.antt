-- What the parameters of a payload say of an endpoint, field by field. DDSI-RTPS 2.5, 8.5.4 "The Simple Endpoint
-- Discovery Protocol".
use Rattle.std.specs.Prelude.{◌≡◌, Some}
use Rattle.rtps_discovery.specs.Announcement as announcement
use Rattle.rtps_discovery.specs.Endpoint as endpoint
use Rattle.rtps_discovery.specs.declared.endpoint.Side.{Side}

-- the parameters give each field of the endpoint
pub record IsDescribedBy (side : Side) (fields : announcement.Fields) (endpoint : endpoint.EndpointValue) : Type 0 where
  pub of_guid : announcement.endpoint_guid fields ≡ Some endpoint.guid
  pub of_side : endpoint.side ≡ side
  pub of_topic : announcement.topic_of fields ≡ Some endpoint.topic
  pub of_type : announcement.type_name_of fields ≡ Some endpoint.type_name
  pub of_reliability : announcement.reliability_of side fields ≡ Some endpoint.reliability
  pub of_durability : announcement.durability_of fields ≡ Some endpoint.durability
