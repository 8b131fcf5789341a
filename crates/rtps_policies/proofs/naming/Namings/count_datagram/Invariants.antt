use Rattle.std.proofs.Common.{◌≡◌, ◌+◌, if◌then◌else◌, map, take, unwrap_or}
use Rattle.std.specs.BTreeMap.{get}
use Rattle.std.specs.BTreeSet.{contains}
use Rattle.std.specs.List.{list_any}
use Rattle.rtps_receiver.specs.Values as values
use Rattle.rtps_policies.specs.Namings as namings
use Rattle.rtps_policies.specs.declared.naming.Naming.{Naming}
use Rattle.rtps_policies.proofs.naming.Namings.count_datagram.Given as goal

-- each naming of the acts so far is seen, and counted once
abbrev pub invariant-loop-act : goal.invariant-loop-act
invariant-loop-act l =
    ((naming : Naming) → contains namings.naming_cmp l.seen naming ≡ list_any (namings.names naming) (map values.spoken_value (take l.act-index l.acts)))
    × ((naming : Naming) → unwrap_or (get namings.naming_cmp l.self.counts naming) 0
    ≡ unwrap_or (get namings.naming_cmp l.initial.self.counts naming) 0 + (if list_any (namings.names naming) (map values.spoken_value (take l.act-index l.acts)) then 1 else 0))
