-- Faults of recordings as faults of runs.
-- own: a run tells the fault of its recording as it stands.
use Rattle.rtps_capture.specs.declared.read_fault.ReadFault.{ReadFault}
use Rattle.rtps_tool.specs.RecordingCapture as recording_capture
use Rattle.rtps_tool.specs.declared.faults.RecFault.{RecFault}
use Rattle.rtps_tool.specs.declared.faults.RunFault.{RunFault}

-- want of memory is one fault, wherever it was met
abbrev pub run_fault_of : RecFault → RunFault
run_fault_of (RecFault.BadHex line) = RunFault.Recording (RecFault.BadHex line)
run_fault_of (RecFault.TooLong line) = RunFault.Recording (RecFault.TooLong line)
run_fault_of RecFault.TooMany = RunFault.Recording RecFault.TooMany
run_fault_of RecFault.Memory = RunFault.Memory
run_fault_of RecFault.BadCapture = RunFault.Recording RecFault.BadCapture
run_fault_of (RecFault.CutCapture frame) = RunFault.Recording (RecFault.CutCapture frame)
run_fault_of (RecFault.Damaged frame) = RunFault.Recording (RecFault.Damaged frame)

-- why a capture is not read on
abbrev pub run_fault_in : ReadFault → RunFault
run_fault_in ReadFault.Input = RunFault.Input
run_fault_in (ReadFault.Capture fault) = run_fault_of (recording_capture.rec_fault_of fault)
