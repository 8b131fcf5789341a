-- The names and the numbers of faults. own: both stay the same, since reports and programs name faults by them.
use Rattle.std.specs.Prelude.{ℕ, List, codes}
use Rattle.rtps_params.specs.declared.fault.ParamFault.{ParamFault}
use Rattle.rtps_params.specs.declared.list_fault.ListFault.{ListFault}

-- the name of a fault: that of its variant
unfoldable pub fault_name : ParamFault → List ℕ
fault_name ParamFault.CutHeader = codes "CutHeader"
fault_name ParamFault.CutValue = codes "CutValue"

-- the number of a fault, from 1 on
abbrev pub fault_number : ParamFault → ℕ
fault_number ParamFault.CutHeader = 1
fault_number ParamFault.CutValue = 2

-- the name of a reason why a list is not written
unfoldable pub list_fault_name : ListFault → List ℕ
list_fault_name ListFault.ValueTooLong = codes "ValueTooLong"
list_fault_name ListFault.ValueUnaligned = codes "ValueUnaligned"
list_fault_name ListFault.PidReserved = codes "PidReserved"
list_fault_name ListFault.Memory = codes "Memory"

-- the number of such a reason, after the numbers of the faults above
abbrev pub list_fault_number : ListFault → ℕ
list_fault_number ListFault.ValueTooLong = 3
list_fault_number ListFault.ValueUnaligned = 4
list_fault_number ListFault.PidReserved = 5
list_fault_number ListFault.Memory = 6
