-- The status that a run ends the program with.
-- own: 0 where all is well, 1 where an audit found something, 2 where what was given is refused, 3 where the system failed.
use Rattle.std.specs.Prelude.{ℕ, Result, Ok, Err}
use Rattle.rtps_tool.specs.declared.faults.BesideFault.{BesideFault}
use Rattle.rtps_tool.specs.declared.faults.RecFault.{RecFault}
use Rattle.rtps_report.specs.declared.findings.Ending.{Ending}
use Rattle.rtps_tool.specs.declared.faults.RunFault.{RunFault}

-- the status of a fault
abbrev pub fault_status_of : RunFault → ℕ
fault_status_of (RunFault.Recording (RecFault.BadHex line)) = 2
fault_status_of (RunFault.Recording (RecFault.TooLong line)) = 2
fault_status_of (RunFault.Recording RecFault.TooMany) = 2
fault_status_of (RunFault.Recording RecFault.Memory) = 3
fault_status_of (RunFault.Recording RecFault.BadCapture) = 2
fault_status_of (RunFault.Recording (RecFault.CutCapture frame)) = 2
fault_status_of (RunFault.Recording (RecFault.Damaged frame)) = 2
fault_status_of RunFault.Input = 3
fault_status_of (RunFault.Output written) = 3
fault_status_of RunFault.Memory = 3
fault_status_of RunFault.Changed = 3

-- the status with which a run ends; a fault of the other recording has the status that it has of FILE
abbrev pub status_of : Result Ending BesideFault → ℕ
status_of (Ok Ending.Clean) = 0
status_of (Ok Ending.Unclean) = 1
status_of (Ok (Ending.Unmet findings)) = 1
status_of (Err (BesideFault.Run fault)) = fault_status_of fault
status_of (Err (BesideFault.Other fault)) = fault_status_of fault
