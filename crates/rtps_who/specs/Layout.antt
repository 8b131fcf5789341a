-- The ids, sizes and octets of what is read of processes and of nodes, as the standards and ROS 2 have them. Each value is written only here and
-- in `layout`. DDSI-RTPS 2.5, 9.6.3 and 10.
use Rattle.std.specs.Prelude.{◌≡◌, [], ◌∷◌, replicate}
use Rattle.rtps_who.specs.declared.layout.gid.TheConstants as gid
use Rattle.rtps_who.specs.declared.layout.header.TheConstants as header
use Rattle.rtps_who.specs.declared.layout.mark.TheConstants as mark
use Rattle.rtps_who.specs.declared.layout.pid.TheConstants as pid
use Rattle.rtps_who.specs.declared.layout.sequence.TheConstants as sequence

-- the ids of the parameters that are read
abbrev pub pid_is : Type 0
pid_is = (pid.USER_DATA ≡ 0x002c) × (pid.PROPERTY_LIST ≡ 0x0059) × (pid.ENTITY_NAME ≡ 0x0062)

-- the beginning of a payload (DDSI-RTPS 2.5, 10)
abbrev pub header_is : Type 0
header_is =
    (header.SIZE ≡ 4) × (header.ID_SIZE ≡ 2) × (header.CDR_BE ≡ 0x00 ∷ 0x00 ∷ []) × (header.CDR_LE ≡ 0x00 ∷ 0x01 ∷ [])

-- lists of texts and of gids (DDSI-RTPS 2.5, 10.2)
abbrev pub sequence_is : Type 0
sequence_is = (sequence.COUNT_SIZE ≡ 4) × (sequence.LENGTH_SIZE ≡ 4) × (sequence.ALIGNMENT ≡ 4)

-- gids of ROS 2
abbrev pub gid_is : Type 0
gid_is = (gid.GUID_SIZE ≡ 16) × (gid.WIDE_SIZE ≡ 24) × (gid.WIDE_ROOM ≡ 28) × (gid.ZEROS ≡ replicate 8 0) × (gid.PADDING ≡ 3)

-- octets that part texts
abbrev pub mark_is : Type 0
mark_is = (mark.COLON ≡ 58) × (mark.SEMICOLON ≡ 59) × (mark.SLASH ≡ 47) × (mark.ZERO ≡ 48) × (mark.NINE ≡ 57)
