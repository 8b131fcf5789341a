use Rattle.std.proofs.Common.{◌≡◌, option_copied}
use Rattle.std.specs.Option.{option_or}
use Rattle.rtps_params.specs.Reading as reading
use Rattle.rtps_discovery.specs.Announcement as announcement
use Rattle.rtps_discovery.specs.Fields as fields
use Rattle.rtps_discovery.specs.declared.layout.pid.TheConstants as pid
use Rattle.rtps_discovery.proofs.endpoint_parameters.EndpointParameters.of.Given as goal

-- of each id, the value found so far or else the one to come
abbrev pub invariant-loop-pid : goal.invariant-loop-pid
invariant-loop-pid l =
    record {
      can : (goal.iterator-loop-pid).can_next l.pid-iterator;
      ends : (goal.iterator-loop-pid).is_finite l.pid-iterator;
      guid : option_or (option_copied l.found.guid) (reading.first_value pid.ENDPOINT_GUID l.pid-iterator) ≡ announcement.field pid.ENDPOINT_GUID (fields.fields_value l.list);
      topic : option_or (option_copied l.found.topic) (reading.first_value pid.TOPIC_NAME l.pid-iterator) ≡ announcement.field pid.TOPIC_NAME (fields.fields_value l.list);
      type_name : option_or (option_copied l.found.type_name) (reading.first_value pid.TYPE_NAME l.pid-iterator) ≡ announcement.field pid.TYPE_NAME (fields.fields_value l.list);
      reliability : option_or (option_copied l.found.reliability) (reading.first_value pid.RELIABILITY l.pid-iterator) ≡ announcement.field pid.RELIABILITY (fields.fields_value l.list);
      durability : option_or (option_copied l.found.durability) (reading.first_value pid.DURABILITY l.pid-iterator) ≡ announcement.field pid.DURABILITY (fields.fields_value l.list);
    }
