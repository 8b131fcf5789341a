-- Who talks one way in a recording, and in how many datagrams. own: in the order of the one that talks, and then of the other, so
-- that one recording has one list.
use Rattle.std.specs.Prelude.{ℕ, ◌≡◌, ◌↔◌, true, if◌then◌else◌, Contains, List, Option, Some, None, map}
use Rattle.std.specs.List.{filter_map}
use Rattle.std.specs.List.Sorted.{IsStrictlySortedBy}
use Rattle.rtps_policies.specs.Namings as namings
use Rattle.rtps_policies.specs.Silence as silence
use Rattle.rtps_policies.specs.declared.naming.Naming.{Naming}
use Rattle.rtps_policies.specs.declared.one_way.OneWay.{OneWay}

-- each naming of a participant that never answers is listed, with its count, and nothing else
pub record AreOneWayIn (traffic : silence.Traffic) (found : List OneWay) : Type 0 where
  pub in_order : IsStrictlySortedBy namings.naming_cmp (map (λ one. one.naming) found)
  pub each : (one : OneWay) → Contains found one ↔ ((silence.is_one_way traffic one.naming ≡ true) × (one.count ≡ namings.named_in traffic.datagrams one.naming))

-- a naming with its count, if the other never answers
abbrev pub one_way_at : silence.Traffic → Naming × ℕ → Option OneWay
one_way_at traffic entry = if silence.is_one_way traffic entry.0 then Some (record { naming = entry.0; count = entry.1 }) else None

-- those among namings with their counts, in the same order
abbrev pub one_way_among : silence.Traffic → List (Naming × ℕ) → List OneWay
one_way_among traffic entries = filter_map (one_way_at traffic) entries
