-- What is behind the headers that are passed, one header at a time.
use Rattle.std.proofs.Common.{◌≡◌, ℕ, zero, suc, ◌+◌, ◌<◌, ◌≤◌, Bool, true, false, List, length, refl, ap, subst, ◌∙◌, arith}
use Rattle.std.specs.Prelude.{option_map, unwrap_or, IfSome, None, Option, Some, if◌then◌else◌, nat_le, ◌==◌, ◌&&◌}
use Rattle.std.proofs.lemmas.Bool.Decides.{nat_tests}
use Rattle.rtps_ids.specs.declared.order.Order.{Order}
use Rattle.rtps_capture.specs.Passed as passed_spec
use Rattle.rtps_capture.specs.Options as options_spec
use Rattle.rtps_capture.specs.declared.layout.extension.TheConstants as extension
use Rattle.rtps_capture.specs.declared.passed.Header.{Header}

-- each header that is passed has octets of its own, within so many
abbrev pub LeadsOn : (Header → Option Header) → ℕ → Type 0
LeadsOn passed size = (header : Header) → IfSome (passed header) (λ behind. (header.at < behind.at) × (behind.at ≤ size))

-- as many steps as there are octets are enough
last_within-enough : (passed : Header → Option Header) (size : ℕ) → LeadsOn passed size → (m n : ℕ) (header : Header)
    → size ≤ header.at + m → size ≤ header.at + n → passed_spec.last_within passed m header ≡ passed_spec.last_within passed n header
unfolding passed_spec.last_within
last_within-enough passed size on zero zero header p q = refl
last_within-enough passed size on zero (suc n) header p q = by (passed header) (on header)
  where
    by : (o : Option Header) → IfSome o (λ behind. (header.at < behind.at) × (behind.at ≤ size)) → header ≡ unwrap_or (option_map (passed_spec.last_within passed n) o) header
    by None within = refl
    by (Some behind) within = absurd (omega (arith, within.0, within.1))
last_within-enough passed size on (suc m) zero header p q = by (passed header) (on header)
  where
    by : (o : Option Header) → IfSome o (λ behind. (header.at < behind.at) × (behind.at ≤ size)) → unwrap_or (option_map (passed_spec.last_within passed m) o) header ≡ header
    by None within = refl
    by (Some behind) within = absurd (omega (arith, within.0, within.1))
last_within-enough passed size on (suc m) (suc n) header p q = by (passed header) (on header) (last_within-enough passed size on m n)
  where
    by : (o : Option Header) → IfSome o (λ behind. (header.at < behind.at) × (behind.at ≤ size))
        → ((behind : Header) → size ≤ behind.at + m → size ≤ behind.at + n → passed_spec.last_within passed m behind ≡ passed_spec.last_within passed n behind)
        → unwrap_or (option_map (passed_spec.last_within passed m) o) header ≡ unwrap_or (option_map (passed_spec.last_within passed n) o) header
    by None within rest = refl
    by (Some behind) within rest = rest behind (omega (arith, within.0)) (omega (arith, within.0))

-- a header that is passed leaves what is behind it
pub last_within-step : (passed : Header → Option Header) (size : ℕ) → LeadsOn passed size → (header behind : Header) → passed header ≡ Some behind
    → passed_spec.last_within passed size header ≡ passed_spec.last_within passed size behind
unfolding passed_spec.last_within
last_within-step passed size on header behind is = by size refl
  where
    within : (header.at < behind.at) × (behind.at ≤ size)
    within = subst (λ (o : Option Header). IfSome o (λ next. (header.at < next.at) × (next.at ≤ size))) is (on header)

    by : (n : ℕ) → size ≡ n → passed_spec.last_within passed n header ≡ passed_spec.last_within passed n behind
    by zero none = absurd (omega (arith, within.0, within.1))
    by (suc n) more = ap (λ (o : Option Header). unwrap_or (option_map (passed_spec.last_within passed n) o) header) is ∙ last_within-enough passed size on n (suc n) behind (omega (arith, within.0)) (omega arith)

-- a header that is not passed is the last
pub last_within-end : (passed : Header → Option Header) (n : ℕ) (header : Header) → passed header ≡ None → passed_spec.last_within passed n header ≡ header
unfolding passed_spec.last_within
last_within-end passed zero header is = refl
last_within-end passed (suc n) header is = ap (λ (o : Option Header). unwrap_or (option_map (passed_spec.last_within passed n) o) header) is

pub tags_lead_on : (frame : List ℕ) → LeadsOn (passed_spec.tag_passed frame) (length frame)
tags_lead_on frame header = grind (arith, nat_tests)

extension_leads_on : (packet : List ℕ) (header : Header) (size : ℕ) → 0 < size
    → IfSome (passed_spec.behind_extension packet header.at size) (λ behind. (header.at < behind.at) × (behind.at ≤ length packet))
extension_leads_on packet header size some = by (nat_le (header.at + size) (length packet)) refl
  where
    by : (fits : Bool) → nat_le (header.at + size) (length packet) ≡ fits
        → IfSome (passed_spec.behind_extension packet header.at size) (λ behind. (header.at < behind.at) × (behind.at ≤ length packet))
    by true is = rw is (omega arith, grind (arith, nat_tests))
    by false is = rw is tt

pub extensions_lead_on : (packet : List ℕ) → LeadsOn (passed_spec.extension_passed packet) (length packet)
extensions_lead_on packet header =
    by (nat_le (header.at + extension.SIZE) (length packet)) (passed_spec.is_extension header.kind) (header.kind == extension.FRAGMENT && passed_spec.is_atomic packet header.at)
  where
    by : (room options fragment : Bool)
        → IfSome (if room then (if options then passed_spec.behind_extension packet header.at (passed_spec.extension_size packet header.at) else if fragment then passed_spec.behind_extension packet header.at extension.SIZE else None) else None)
        (λ behind. (header.at < behind.at) × (behind.at ≤ length packet))
    by false options fragment = tt
    by true true fragment = extension_leads_on packet header (passed_spec.extension_size packet header.at) (omega arith)
    by true false true = extension_leads_on packet header extension.SIZE (omega arith)
    by true false false = tt

pub options_lead_on : (order : Order) (code : ℕ) (options : List ℕ) → LeadsOn (options_spec.option_passed order code options) (length options)
options_lead_on order code options header = by (options_spec.is_passed code options header) (nat_le (options_spec.next_option order options header.at) (length options)) refl
  where
    by : (passed fits : Bool) → nat_le (options_spec.next_option order options header.at) (length options) ≡ fits
        → IfSome (if passed && fits then Some (options_spec.option_at order options (options_spec.next_option order options header.at)) else None)
        (λ behind. (header.at < behind.at) × (behind.at ≤ length options))
    by true true is = (omega arith, grind (arith, nat_tests))
    by true false is = tt
    by false fits is = tt
