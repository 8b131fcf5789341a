use Rattle.std.proofs.Common.{◌++◌, List}
use Rattle.rtps_receiver.specs.Values as values
use Rattle.rtps_policies.specs.Announcing as announcing_spec
use Rattle.rtps_known.specs.Recorded as recorded
use Rattle.rtps_known.specs.Tellings as tellings
use Rattle.rtps_known.specs.Untold as untold
use Rattle.rtps_known.specs.declared.untold.Untold.{Untold}
use Rattle.rtps_known.proofs.known.Known.untold.Given as goal

-- what is found, and then what is said of those that are left, is what is said of all
abbrev pub invariant-loop-naming : goal.invariant-loop-naming
invariant-loop-naming l =
    (acts : List tellings.TimedAct) (announcing : List values.ActValue) → recorded.IsKnownOf acts l.self → announcing_spec.IsAnnouncedBy announcing l.announced → (behind : List Untold)
    → untold.AreSaidOf acts (record { announcing = announcing; visits = l.visits }) l.naming-iterator behind
    → untold.AreSaidOf acts (record { announcing = announcing; visits = l.visits }) l.self.met.keys (l.found.items ++ behind)
