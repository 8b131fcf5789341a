-- The ids and kinds of what is read of announcements, as the tables of the standards have them. Each value is written only
-- here and in `layout`. DDSI-RTPS 2.5, 9.6.3; XTypes 1.3, 7.6.3.1.1; DDS 1.4, 2.2.3.
use Rattle.std.specs.Prelude.{◌≡◌, ◌*◌, ◌^◌, [], ◌∷◌}
use Rattle.rtps_policies.specs.declared.layout.destination_order.TheConstants as destination_order
use Rattle.rtps_policies.specs.declared.layout.discovery_port.TheConstants as discovery_port
use Rattle.rtps_policies.specs.declared.layout.entity.TheConstants as entity
use Rattle.rtps_policies.specs.declared.layout.header.TheConstants as header
use Rattle.rtps_policies.specs.declared.layout.lease.TheConstants as lease
use Rattle.rtps_policies.specs.declared.layout.liveliness.TheConstants as liveliness
use Rattle.rtps_policies.specs.declared.layout.locator.TheConstants as locator
use Rattle.rtps_policies.specs.declared.layout.ownership.TheConstants as ownership
use Rattle.rtps_policies.specs.declared.layout.pattern.TheConstants as pattern
use Rattle.rtps_policies.specs.declared.layout.pid.TheConstants as pid
use Rattle.rtps_policies.specs.declared.layout.presentation.TheConstants as presentation
use Rattle.rtps_policies.specs.declared.layout.representation.TheConstants as representation
use Rattle.rtps_policies.specs.declared.layout.sequence.TheConstants as sequence
use Rattle.rtps_policies.specs.declared.layout.vendor.TheConstants as vendor

-- the ids of the parameters that are read (DDSI-RTPS 2.5, 9.6.3; XTypes 1.3, 7.6.3.1.1)
abbrev pub pid_is : Type 0
pid_is =
    (pid.PARTICIPANT_LEASE_DURATION ≡ 0x0002) × (pid.DOMAIN_ID ≡ 0x000f) × (pid.LIVELINESS ≡ 0x001b) × (pid.OWNERSHIP ≡ 0x001f) × (pid.PRESENTATION ≡ 0x0021)
    × (pid.DEADLINE ≡ 0x0023) × (pid.DESTINATION_ORDER ≡ 0x0025) × (pid.LATENCY_BUDGET ≡ 0x0027) × (pid.PARTITION ≡ 0x0029)
    × (pid.DEFAULT_UNICAST_LOCATOR ≡ 0x0031) × (pid.METATRAFFIC_UNICAST_LOCATOR ≡ 0x0032) × (pid.METATRAFFIC_MULTICAST_LOCATOR ≡ 0x0033)
    × (pid.VENDOR_ID ≡ 0x0016) × (pid.DATA_REPRESENTATION ≡ 0x0073)

-- the kinds of liveliness (DDS 1.4, 2.2.3.11), and the offset of the lease
abbrev pub liveliness_is : Type 0
liveliness_is =
    (liveliness.AUTOMATIC ≡ 0) × (liveliness.MANUAL_BY_PARTICIPANT ≡ 1) × (liveliness.MANUAL_BY_TOPIC ≡ 2) × (liveliness.LEASE ≡ 4)

-- the kinds of ownership (DDS 1.4, 2.2.3.9)
abbrev pub ownership_is : Type 0
ownership_is = (ownership.SHARED ≡ 0) × (ownership.EXCLUSIVE ≡ 1)

-- the kinds of destination order (DDS 1.4, 2.2.3.17)
abbrev pub destination_order_is : Type 0
destination_order_is = (destination_order.BY_RECEPTION ≡ 0) × (destination_order.BY_SOURCE ≡ 1)

-- the scopes of presentation (DDS 1.4, 2.2.3.6), and the offsets of its flags
abbrev pub presentation_is : Type 0
presentation_is =
    (presentation.INSTANCE ≡ 0) × (presentation.TOPIC ≡ 1) × (presentation.GROUP ≡ 2) × (presentation.COHERENT ≡ 4) × (presentation.ORDERED ≡ 5)

-- the octets of patterns (IEEE Std 1003.1, 2.13)
abbrev pub pattern_is : Type 0
pattern_is =
    (pattern.STAR ≡ 42) × (pattern.QUESTION ≡ 63) × (pattern.OPENING ≡ 91) × (pattern.CLOSING ≡ 93) × (pattern.MARK ≡ 33)
    × (pattern.CARET ≡ 94) × (pattern.HYPHEN ≡ 45)

-- lists of texts and ids (DDSI-RTPS 2.5, 10.2; XTypes 1.3, 7.6.3.1.1)
abbrev pub sequence_is : Type 0
sequence_is = (sequence.COUNT_SIZE ≡ 4) × (sequence.LENGTH_SIZE ≡ 4) × (sequence.ALIGNMENT ≡ 4) × (sequence.ID_SIZE ≡ 2)

-- the ids of representations (XTypes 1.3, 7.6.3.1.1)
abbrev pub representation_is : Type 0
representation_is = representation.XCDR1 ≡ 0

-- the beginning of a payload (DDSI-RTPS 2.5, 10)
abbrev pub header_is : Type 0
header_is =
    (header.SIZE ≡ 4) × (header.ID_SIZE ≡ 2) × (header.PL_CDR_BE ≡ 0x00 ∷ 0x02 ∷ []) × (header.PL_CDR_LE ≡ 0x00 ∷ 0x03 ∷ [])

-- entity ids (DDSI-RTPS 2.5, 9.3.1.3)
abbrev pub entity_is : Type 0
entity_is = (entity.PARTICIPANT.0 ≡ 0x00 ∷ 0x00 ∷ 0x01 ∷ 0xc1 ∷ []) × (entity.PARTICIPANTS.0 ≡ 0x00 ∷ 0x01 ∷ 0x00 ∷ 0xc2 ∷ [])

-- the lease of a participant that announces none: 100 s (DDSI-RTPS 2.5, 9.6.3)
abbrev pub lease_is : Type 0
lease_is = lease.DEFAULT ≡ 100 * 10 ^ 9

-- locators (DDSI-RTPS 2.5, 9.3.2; own: the least kind of memory)
abbrev pub locator_is : Type 0
locator_is =
    (locator.SIZE ≡ 24) × (locator.UDP_V4 ≡ 1) × (locator.UDP_V6 ≡ 2) × (locator.MEMORY ≡ 16) × (locator.BELOW_ZERO ≡ 2 ^ 31) × (locator.PORT ≡ 4)
    × (locator.ADDRESS ≡ 8) × (locator.V4_ADDRESS ≡ 20)

-- the ports for discovery (DDSI-RTPS 2.5, 9.6)
abbrev pub discovery_port_is : Type 0
discovery_port_is = (discovery_port.BASE ≡ 7400) × (discovery_port.GAIN ≡ 250)

-- vendors (DDSI-RTPS 2.5, 8.3.3.1.3)
abbrev pub vendor_is : Type 0
vendor_is = vendor.FAST_DDS ≡ 0x01 ∷ 0x0f ∷ []
