-- What it says that there is no reason against items.
use Rattle.std.proofs.Common.{◌≡◌, ◌<◌, ◌^◌, Bool, true, false, Option, Some, None, length, refl, arith, if◌then◌else◌}
use Rattle.std.specs.Prelude.{nat_le}
use Rattle.std.proofs.lemmas.Bool.Decides.{nat_tests}
use Rattle.rtps_wire.specs.Values as values
use Rattle.rtps_write.specs.Writable as writable
use Rattle.rtps_write.specs.Written as written
use Rattle.rtps_write.specs.declared.write_fault.WriteFault.{WriteFault}

pub no_first : (first later : Option WriteFault) → writable.first_of first later ≡ None → (first ≡ None) × (later ≡ None)
no_first None later none = (refl, none)
no_first (Some fault) later none = cc

no_row : (bad long unaligned : Bool) → (if bad then Some WriteFault.NotWritable else if long then Some WriteFault.TooLong else if unaligned then Some WriteFault.Unaligned else None) ≡ None
    → (bad ≡ false) × (long ≡ false)
no_row true long unaligned none = cc
no_row false true unaligned none = cc
no_row false false unaligned none = (refl, refl)

pub no_fault : (is_last : Bool) (value : values.ItemValue) → writable.item_fault is_last value ≡ None
    → (writable.is_not_writable value.order value.body ≡ false) × (length (written.written_body value.order value.body) < 2 ^ 16)
no_fault is_last value none =
    let rows = no_row (writable.is_not_writable value.order value.body) (nat_le (2 ^ 16) (length (written.written_body value.order value.body))) _ none in
    let long = rows.1 in
    (rows.0, grind (arith, nat_tests))
