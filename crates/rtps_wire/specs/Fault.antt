-- Which fault a submessage has: the first condition of its table that holds. own: the order is fixed, so that a
-- submessage has one fault.
use Rattle.std.specs.Prelude.{◌≡◌, Bool, if◌then◌else◌, List, [], ◌∷◌, Option, Some, None, Result, Ok, Err}
use Rattle.rtps_wire.specs.declared.fault.WireFault.{WireFault}

-- the fault of the first row whose condition holds, or none
abbrev pub first_fault : List (WireFault × Bool) → Option WireFault
first_fault [] = None
first_fault (row ∷ rows) = if row.1 then Some row.0 else first_fault rows

-- A function that reads returns the fault if there is one. Else it returns a value that `view` maps to the right one.
abbrev pub ReadsOrFaults : {X Y : Type 0} → (X → Y) → Result X WireFault → Option WireFault → Y → Type 0
ReadsOrFaults view (Ok x) fault value = (fault ≡ None) × (view x ≡ value)
ReadsOrFaults view (Err e) fault value = fault ≡ Some e
