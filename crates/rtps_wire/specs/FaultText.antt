-- The names and the numbers of faults. own: both stay the same, since reports and programs name faults by them.
use Rattle.std.specs.Prelude.{ℕ, List, codes}
use Rattle.rtps_wire.specs.declared.fault.WireFault.{WireFault}

-- the name of a fault: that of its variant
unfoldable pub fault_name : WireFault → List ℕ
fault_name WireFault.Short = codes "Short"
fault_name WireFault.NotRtps = codes "NotRtps"
fault_name WireFault.BadVersion = codes "BadVersion"
fault_name WireFault.CutHeader = codes "CutHeader"
fault_name WireFault.Overrun = codes "Overrun"
fault_name WireFault.ShortBody = codes "ShortBody"
fault_name WireFault.BadFlags = codes "BadFlags"
fault_name WireFault.BadOffset = codes "BadOffset"
fault_name WireFault.BadNumber = codes "BadNumber"
fault_name WireFault.BadRange = codes "BadRange"
fault_name WireFault.BadSet = codes "BadSet"
fault_name WireFault.BadInlineQos = codes "BadInlineQos"

-- the number of a fault, from 1 on
abbrev pub fault_number : WireFault → ℕ
fault_number WireFault.Short = 1
fault_number WireFault.NotRtps = 2
fault_number WireFault.BadVersion = 3
fault_number WireFault.CutHeader = 4
fault_number WireFault.Overrun = 5
fault_number WireFault.ShortBody = 6
fault_number WireFault.BadFlags = 7
fault_number WireFault.BadOffset = 8
fault_number WireFault.BadNumber = 9
fault_number WireFault.BadRange = 10
fault_number WireFault.BadSet = 11
fault_number WireFault.BadInlineQos = 12
