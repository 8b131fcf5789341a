-- What a call answers, against what a definition gives.
-- own: memory may end at any time, which no definition foresees.
use Rattle.std.specs.Prelude.{◌≡◌, Result, Err}
use Rattle.rtps_tool.specs.declared.faults.RecFault.{RecFault}

-- the definition gives this fault, but for want of memory, which no definition gives
abbrev pub IsFaultOf : {X : Type 0} → Result X RecFault → RecFault → Type 0
IsFaultOf defined (RecFault.BadHex line) = defined ≡ Err (RecFault.BadHex line)
IsFaultOf defined (RecFault.TooLong line) = defined ≡ Err (RecFault.TooLong line)
IsFaultOf defined RecFault.TooMany = defined ≡ Err RecFault.TooMany
IsFaultOf defined RecFault.Memory = Unit {0}
IsFaultOf defined RecFault.BadCapture = defined ≡ Err RecFault.BadCapture
IsFaultOf defined (RecFault.CutCapture frame) = defined ≡ Err (RecFault.CutCapture frame)
IsFaultOf defined (RecFault.Damaged frame) = defined ≡ Err (RecFault.Damaged frame)
