-- The fields of an act that announces something. DDSI-RTPS 2.5, 8.5 "Discovery Module".
use Rattle.std.specs.Prelude.{Option}
use Rattle.std.specs.Result.{result_ok}
use Rattle.rtps_receiver.specs.Values as values
use Rattle.rtps_discovery.specs.Announcement as announcement
use Rattle.rtps_policies.specs.Announcing as announcing

-- the fields of its payload, if it has any
abbrev pub fields_in : values.ActBodyValue → Option announcement.Fields
fields_in body = result_ok (announcement.fields_of (announcing.payload_of body))
