use Rattle.std.proofs.Common.{◌≡◌, List, filter, fold, map, take}
use Rattle.rtps_audit.specs.Placed as placed
use Rattle.rtps_receiver.specs.Values as values
use Rattle.rtps_report.specs.Early as early
use Rattle.rtps_report.specs.Participants as participants
use Rattle.rtps_report.proofs.early.note_early.Given as goal

-- those of the acts so far
abbrev pub invariant-loop-act : goal.invariant-loop-act
invariant-loop-act l =
    (announcing : List placed.PlacedValue) → participants.AreJoined announcing l.joined
    → l.early.keys ≡ fold early.with_source l.initial.early.keys (filter (early.is_early announcing l.datagram) (map values.spoken_value (take l.act-index l.acts)))
