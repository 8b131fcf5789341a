use Rattle.std.proofs.Common.{◌++◌, List, map, take}
use Rattle.rtps_receiver.specs.Values as values
use Rattle.rtps_policies.specs.Announcing as announcing
use Rattle.rtps_policies.proofs.announced.Announced.note_all.Given as goal

-- what the acts so far announce
abbrev pub invariant-loop-act : goal.invariant-loop-act
invariant-loop-act l = (before : List values.ActValue) → announcing.IsAnnouncedBy before l.initial.self → announcing.IsAnnouncedBy (before ++ map values.spoken_value (take l.act-index l.acts)) l.self
