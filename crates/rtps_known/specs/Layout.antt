-- The ids and sizes of what is read of announcements. Each value is written only here and in `layout`. DDSI-RTPS 2.5, 9.3.1.3 "Predefined EntityIds"
-- and 9.6.4.9 "StatusInfo_t (PID_STATUS_INFO)". own: the vendors for which two lives were tried, and the time of grace, are choices.
use Rattle.std.specs.Prelude.{◌≡◌, ◌^◌, [], ◌∷◌}
use Rattle.rtps_known.specs.declared.layout.TheConstants as layout
use Rattle.rtps_known.specs.declared.layout.entity.TheConstants as entity
use Rattle.rtps_known.specs.declared.layout.status.TheConstants as status
use Rattle.rtps_known.specs.declared.layout.vendor.TheConstants as vendor

-- built-in entities (9.3.1.3)
abbrev pub entity_is : Type 0
entity_is =
    (entity.PARTICIPANTS.0 ≡ 0x00 ∷ 0x01 ∷ 0x00 ∷ 0xc2 ∷ []) × (entity.PUBLICATIONS.0 ≡ 0x00 ∷ 0x00 ∷ 0x03 ∷ 0xc2 ∷ [])
    × (entity.PUBLICATIONS_READER.0 ≡ 0x00 ∷ 0x00 ∷ 0x03 ∷ 0xc7 ∷ []) × (entity.SUBSCRIPTIONS.0 ≡ 0x00 ∷ 0x00 ∷ 0x04 ∷ 0xc2 ∷ [])
    × (entity.SUBSCRIPTIONS_READER.0 ≡ 0x00 ∷ 0x00 ∷ 0x04 ∷ 0xc7 ∷ [])

-- a status (9.6.4.9)
abbrev pub status_is : Type 0
status_is = (status.PID ≡ 0x0071) × (status.SIZE ≡ 4) × (status.FLAGS ≡ 3) × (status.ENDS ≡ 4)

-- the vendors whose stacks repeat the source time of a number
abbrev pub vendor_is : Type 0
vendor_is = (vendor.CYCLONE.0 ≡ 0x01 ∷ 0x10 ∷ []) × (vendor.FAST.0 ≡ 0x01 ∷ 0x0f ∷ [])

-- a second and a tenth of one in nanoseconds, and what is past all numbers
abbrev pub bounds_are : Type 0
bounds_are = (layout.GRACE ≡ 1000000000) × (layout.NEAR ≡ 100000000) × (layout.END ≡ 2 ^ 63)
