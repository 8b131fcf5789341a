-- Whose software a participant is. DDSI-RTPS 2.5, 8.5.3.2 "SPDPdiscoveredParticipantData" (vendorId). own: asked is what the participant announces of itself, and not
-- the header of the message, since others may pass an announcement on.
use Rattle.std.specs.Prelude.{ℕ, ◌&&◌, Bool, false, List, length, nat_eq, nat_le, take, unwrap_or}
use Rattle.std.specs.Cmp.Lexicographic.{pointwise}
use Rattle.std.specs.Option.{option_map}
use Rattle.rtps_discovery.specs.Announcement as announcement
use Rattle.rtps_policies.specs.declared.layout.pid.TheConstants as pid
use Rattle.rtps_policies.specs.declared.layout.vendor.TheConstants as vendor

-- octets begin with the id of Fast DDS
abbrev pub is_fast : List ℕ → Bool
is_fast value = nat_le 2 (length value) && pointwise nat_eq (take 2 value) vendor.FAST_DDS

-- the parameters of a participant say that it is of Fast DDS
abbrev pub is_of_fast : announcement.Fields → Bool
is_of_fast fields = unwrap_or (option_map is_fast (announcement.field pid.VENDOR_ID fields)) false
