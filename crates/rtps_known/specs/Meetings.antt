-- Which participants have to do with which. DDSI-RTPS 2.5, 8.3.8.8 "InfoDestination". own: two participants that never name each other may be of two
-- systems that share a network, so nothing is said of them.
use Rattle.std.specs.Prelude.{◌≡◌, ◌||◌, Bool, List}
use Rattle.std.specs.BTreeSet.{BTreeSet, contains}
use Rattle.std.specs.List.{list_any}
use Rattle.rtps_policies.specs.Namings as namings
use Rattle.rtps_policies.specs.Silence as silence
use Rattle.rtps_policies.specs.declared.naming.Naming.{Naming}
use Rattle.rtps_known.specs.Tellings as tellings

-- an act is from one of the two, and names the other
abbrev pub joins : Naming → tellings.TimedAct → Bool
joins naming timed = namings.names naming timed.act || namings.names (silence.reversed naming) timed.act

-- these are all that acts join
abbrev pub AreMetBy : List tellings.TimedAct → BTreeSet Naming → Type 0
AreMetBy acts met = (naming : Naming) → contains namings.naming_cmp met naming ≡ list_any (joins naming) acts
