-- The numbers of announcements, as the tables of the standard have them. Each value is written only here and in
-- `layout`. DDSI-RTPS 2.5, 9.3.1.3 "Predefined EntityIds", 9.3.2 "Mapping of the Types that Appear Within Submessages
-- or Built-in Topic Data", 9.6 "Mapping of the RTPS Protocol" and 10 "Serialized Payload Representation".
use Rattle.std.specs.Prelude.{◌≡◌, [], ◌∷◌}
use Rattle.rtps_discovery.specs.declared.layout.durability.TheConstants as durability
use Rattle.rtps_discovery.specs.declared.layout.entity.TheConstants as entity
use Rattle.rtps_discovery.specs.declared.layout.pid.TheConstants as pid
use Rattle.rtps_discovery.specs.declared.layout.reliability.TheConstants as reliability
use Rattle.rtps_discovery.specs.declared.layout.representation.TheConstants as representation
use Rattle.rtps_discovery.specs.declared.layout.status.TheConstants as status

-- the built-in writers that announce participants, writers and readers (9.3.1.3)
abbrev pub entity_is : Type 0
entity_is =
    (entity.PARTICIPANTS.0 ≡ 0x00 ∷ 0x01 ∷ 0x00 ∷ 0xc2 ∷ []) × (entity.PUBLICATIONS.0 ≡ 0x00 ∷ 0x00 ∷ 0x03 ∷ 0xc2 ∷ [])
    × (entity.SUBSCRIPTIONS.0 ≡ 0x00 ∷ 0x00 ∷ 0x04 ∷ 0xc2 ∷ []) × (entity.KIND ≡ 0xc2)

-- the beginning of a payload (10)
abbrev pub representation_is : Type 0
representation_is =
    (representation.SIZE ≡ 4) × (representation.ID_SIZE ≡ 2)
    × (representation.PL_CDR_BE ≡ 0x00 ∷ 0x02 ∷ []) × (representation.PL_CDR_LE ≡ 0x00 ∷ 0x03 ∷ [])

-- the ids of the parameters that are read (9.6)
abbrev pub pid_is : Type 0
pid_is =
    (pid.TOPIC_NAME ≡ 0x0005) × (pid.TYPE_NAME ≡ 0x0007) × (pid.RELIABILITY ≡ 0x001a) × (pid.DURABILITY ≡ 0x001d)
    × (pid.PARTICIPANT_GUID ≡ 0x0050) × (pid.ENDPOINT_GUID ≡ 0x005a) × (pid.KEY_HASH ≡ 0x0070) × (pid.STATUS_INFO ≡ 0x0071)

-- a status (9.6.4.9)
abbrev pub status_is : Type 0
status_is = (status.SIZE ≡ 4) × (status.FLAGS ≡ 3) × (status.ENDS ≡ 4)

-- the kinds of reliability (9.3.2)
abbrev pub reliability_is : Type 0
reliability_is = (reliability.BEST_EFFORT ≡ 1) × (reliability.RELIABLE ≡ 2)

-- the kinds of durability (DDS 1.4, 2.2.3.4 "DURABILITY")
abbrev pub durability_is : Type 0
durability_is =
    (durability.VOLATILE ≡ 0) × (durability.TRANSIENT_LOCAL ≡ 1) × (durability.TRANSIENT ≡ 2) × (durability.PERSISTENT ≡ 3)
