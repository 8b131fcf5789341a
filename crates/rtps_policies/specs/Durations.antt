-- Durations. DDSI-RTPS 2.5, 9.3.2 "Mapping of the Types that Appear Within Submessages or Built-in Topic Data".
use Rattle.std.specs.Prelude.{ℕ, ℤ, pos, negsuc, ◌≡◌, ◌≤◌, ◌+◌, ◌*◌, ◌/◌, ◌^◌, ◌<ℤ◌, ◌⊎◌, ◌&&◌, ◌||◌, Bool, List, Option, Some, None, nat_le, option_and_then}
use Rattle.std.specs.Int.{cast_signed, w32}
use Rattle.std.specs.Int.Signed.{lt_z}
use Rattle.std.specs.Option.{option_map}
use Rattle.std.specs.Ordering.{int_eq}
use Rattle.rtps_ids.specs.Octets as octets
use Rattle.rtps_ids.specs.declared.order.Order.{Order}
use Rattle.rtps_policies.specs.declared.duration.Duration.{Duration}

-- the duration in the eight octets at an offset: signed seconds, and then the fraction
abbrev pub duration_at : Order → List ℕ → ℕ → Option Duration
duration_at order value at =
    option_and_then (λ seconds. option_map (λ fraction. record { seconds = cast_signed w32 seconds; fraction = fraction }) (octets.read_at (octets.number_of order 4) 4 value (at + 4)))
    (octets.read_at (octets.number_of order 4) 4 value at)

-- one duration is no longer than another: by seconds, and then by the fraction
abbrev pub IsWithin : Duration → Duration → Type 0
IsWithin one other = (one.seconds <ℤ other.seconds) ⊎ ((one.seconds ≡ other.seconds) × (one.fraction ≤ other.fraction))

-- the same as a test
abbrev pub is_within : Duration → Duration → Bool
is_within one other = lt_z one.seconds other.seconds || (int_eq one.seconds other.seconds && nat_le one.fraction other.fraction)

-- how many nanoseconds a fraction of a second has, in 2^-32 seconds: what is finer is left out
abbrev pub nanoseconds_of : ℕ → ℕ
nanoseconds_of fraction = fraction * 1000000000 / 2 ^ 32

-- seconds and a fraction in nanoseconds; none below 0
abbrev pub nanoseconds_by : ℤ → ℕ → Option ℕ
nanoseconds_by (pos seconds) fraction = Some (seconds * 10 ^ 9 + nanoseconds_of fraction)
nanoseconds_by (negsuc n) fraction = None

-- a duration in nanoseconds
abbrev pub nanoseconds_in : Duration → Option ℕ
nanoseconds_in duration = nanoseconds_by duration.seconds duration.fraction
