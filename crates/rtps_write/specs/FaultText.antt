-- The names and the numbers of the reasons why a message is not written. own: both stay the same, since programs name
-- reasons by them.
use Rattle.std.specs.Prelude.{ℕ, List, codes}
use Rattle.rtps_write.specs.declared.write_fault.WriteFault.{WriteFault}

-- the name of a reason why a message is not written
unfoldable pub write_fault_name : WriteFault → List ℕ
write_fault_name WriteFault.NotWritable = codes "NotWritable"
write_fault_name WriteFault.TooLong = codes "TooLong"
write_fault_name WriteFault.Unaligned = codes "Unaligned"
write_fault_name WriteFault.Memory = codes "Memory"

-- the number of such a reason, after the numbers of `WireFault`
abbrev pub write_fault_number : WriteFault → ℕ
write_fault_number WriteFault.NotWritable = 13
write_fault_number WriteFault.TooLong = 14
write_fault_number WriteFault.Unaligned = 15
write_fault_number WriteFault.Memory = 16
