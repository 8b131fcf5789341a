-- Which participants of a recording name which as their destination, by all acts that are read of it. DDSI-RTPS 2.5, 8.3.8.8
-- "InfoDestination".
use Rattle.std.specs.Prelude.{ℕ, ◌≡◌, ◌&&◌, Bool, List, count_by, unwrap_or}
use Rattle.std.specs.BTreeMap.{get}
use Rattle.std.specs.Cmp.Lexicographic.{slice_cmp}
use Rattle.std.specs.List.{list_any}
use Rattle.std.specs.Ordering.{nat_cmp, ordering_then}
use Rattle.std.specs.declared.cmp.Ordering.{Ordering}
use Rattle.rtps_receiver.specs.Speech as speech
use Rattle.rtps_receiver.specs.Values as values
use Rattle.rtps_policies.specs.declared.naming.Naming.{Naming}
use Rattle.rtps_policies.specs.declared.naming.Namings.{Namings}

-- an act is from the one participant, and names the other as its destination
abbrev pub names : Naming → values.ActValue → Bool
names naming act = speech.is_prefix act.source naming.source && speech.is_for act.dest naming.dest

-- by source, and then by destination
abbrev pub naming_cmp : Naming → Naming → Ordering
naming_cmp a b = ordering_then (slice_cmp nat_cmp a.source.0 b.source.0) (slice_cmp nat_cmp a.dest.0 b.dest.0)

-- in how many datagrams of these acts one does so
abbrev pub named_in : List (List values.ActValue) → Naming → ℕ
named_in datagrams naming = count_by (λ acts. list_any (names naming) acts) datagrams

-- how often it is counted
abbrev pub named_by : Namings → Naming → ℕ
named_by namings naming = unwrap_or (get naming_cmp namings.counts naming) 0

-- the counts are those of datagrams of these acts
abbrev pub AreNamingsOf : List (List values.ActValue) → Namings → Type 0
AreNamingsOf datagrams namings = (naming : Naming) → named_by namings naming ≡ named_in datagrams naming
