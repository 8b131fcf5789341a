-- The names and the numbers of faults. own: both stay the same, since reports and programs name faults by them.
use Rattle.std.specs.Prelude.{ℕ, List, codes}
use Rattle.rtps_ids.specs.declared.set_fault.SetFault.{SetFault}

-- the name of a fault: that of its variant
unfoldable pub fault_name : SetFault → List ℕ
fault_name SetFault.BadSet = codes "BadSet"
fault_name SetFault.CutWords = codes "CutWords"

-- the number of a fault, from 1 on
abbrev pub fault_number : SetFault → ℕ
fault_number SetFault.BadSet = 1
fault_number SetFault.CutWords = 2
