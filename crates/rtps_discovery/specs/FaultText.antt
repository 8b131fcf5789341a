-- The names and the numbers of faults. own: both stay the same, since reports and programs name faults by them.
use Rattle.std.specs.Prelude.{ℕ, List, codes}
use Rattle.rtps_discovery.specs.declared.fault.NoticeFault.{NoticeFault}

-- the name of a fault: that of its variant
unfoldable pub fault_name : NoticeFault → List ℕ
fault_name NoticeFault.CutRepresentation = codes "CutRepresentation"
fault_name NoticeFault.Representation = codes "Representation"
fault_name NoticeFault.List = codes "List"
fault_name NoticeFault.NoGuid = codes "NoGuid"
fault_name NoticeFault.NoTopic = codes "NoTopic"
fault_name NoticeFault.NoType = codes "NoType"
fault_name NoticeFault.BadText = codes "BadText"
fault_name NoticeFault.BadReliability = codes "BadReliability"
fault_name NoticeFault.BadDurability = codes "BadDurability"

-- the number of a fault, from 1 on
abbrev pub fault_number : NoticeFault → ℕ
fault_number NoticeFault.CutRepresentation = 1
fault_number NoticeFault.Representation = 2
fault_number NoticeFault.List = 3
fault_number NoticeFault.NoGuid = 4
fault_number NoticeFault.NoTopic = 5
fault_number NoticeFault.NoType = 6
fault_number NoticeFault.BadText = 7
fault_number NoticeFault.BadReliability = 8
fault_number NoticeFault.BadDurability = 9
