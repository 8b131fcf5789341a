use Rattle.std.proofs.Common.{◌≡◌, ◌++◌}
use Rattle.rtps_policies.specs.Announcing as announcing
use Rattle.rtps_policies.specs.Namings as namings
use Rattle.rtps_policies.specs.OneWays as one_ways
use Rattle.rtps_policies.specs.Silence as silence
use Rattle.rtps_policies.proofs.one_way.one_way_namings.Given as goal

-- those found, and then those among what is left
abbrev pub invariant-loop-naming : goal.invariant-loop-naming
invariant-loop-naming l =
    (traffic : silence.Traffic) → announcing.IsAnnouncedBy traffic.announcing l.announced → namings.AreNamingsOf traffic.datagrams l.namings
    → l.found.items ++ one_ways.one_way_among traffic l.naming-iterator ≡ one_ways.one_way_among traffic l.namings.counts.entries
