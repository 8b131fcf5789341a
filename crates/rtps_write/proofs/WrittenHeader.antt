-- A written header has no fault and spells what was written.
use Rattle.std.proofs.Common.{◌≡◌, ◌≤◌, ℕ, List, ◌++◌, true, false, None, length, drop, refl, ap, ◌∙◌, append_assoc, arith}
use Rattle.std.specs.Prelude.{◌==◌, nat_lt}
use Rattle.std.proofs.lemmas.Bool.Decides.{nat_tests}
use Rattle.std.proofs.lemmas.List.{length-append}
use Rattle.rtps_ids.specs.declared.identity.GuidPrefix.{GuidPrefix}
use Rattle.rtps_ids.specs.declared.identity.Vendor.{Vendor}
use Rattle.rtps_ids.specs.declared.identity.Version.{Version}
use Rattle.rtps_wire.specs.Header as header_spec
use Rattle.rtps_wire.specs.declared.header.Header.{Header}
use Rattle.rtps_write.proofs.WrittenFields.{past, taken, vendor_read}
use Rattle.rtps_write.specs.Written as written
use Rattle.rtps_write.specs.Held as held

pub header_good : (header : Header) (rest : List ℕ) → held.IsHeldHeader header → (header.version.major == 2) ≡ true → header_spec.header_fault (written.header_octets header ++ rest) ≡ None
unfolding header_spec.header_fault
header_good header rest held major =
    let v = held.vendor in
    let p = held.prefix in
    let octets = written.header_octets header ++ rest in
    let long : 20 ≤ length octets = omega (arith, length-append header.vendor.0 header.prefix.0, length-append (header.vendor.0 ++ header.prefix.0) rest) in
    let whole : nat_lt (length octets) 20 ≡ false = grind (arith, nat_tests) in
    rw (whole, major) refl

header_made : (version : Version) (vendor vendor' : Vendor) (prefix prefix' : GuidPrefix) → vendor ≡ vendor' → prefix ≡ prefix'
    → ◌≡◌ {A = Header} (record { version = version; vendor = vendor; prefix = prefix }) (record { version = version; vendor = vendor'; prefix = prefix' })
header_made version vendor vendor' prefix prefix' p q = cc

pub header_same : (header : Header) (rest : List ℕ) → held.IsHeldHeader header → header_spec.header_of (written.header_octets header ++ rest) ≡ header
unfolding header_spec.header_of
header_same header rest held =
    let v = held.vendor in
    let regrouped = append_assoc header.vendor.0 header.prefix.0 rest in
    let made : List ℕ → GuidPrefix = λ xs. record { 0 = xs } in
    header_made header.version _ _ _ _
    (vendor_read header.vendor 6 (header.prefix.0 ++ rest) (written.header_octets header ++ rest) held.vendor regrouped)
    (ap made (taken header.prefix.0 rest _ 12 held.prefix (ap (drop 2) regrouped ∙ past header.vendor.0 (header.prefix.0 ++ rest) 2 0 (omega arith))))
