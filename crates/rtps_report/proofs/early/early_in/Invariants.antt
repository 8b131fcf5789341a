use Rattle.std.proofs.Common.{◌≡◌, List, map, take}
use Rattle.rtps_audit.specs.Placed as placed
use Rattle.rtps_report.specs.ActsRead as acts_read
use Rattle.rtps_report.specs.Early as early
use Rattle.rtps_report.specs.Participants as participants
use Rattle.rtps_report.proofs.early.early_in.Given as goal

-- those of the datagrams so far
abbrev pub invariant-loop-place : goal.invariant-loop-place
invariant-loop-place l =
    (announcing : List placed.PlacedValue) → participants.AreJoined announcing l.joined
    → l.early.keys ≡ early.sources_of (early.early_in announcing (acts_read.datagrams_read (map (λ datagram. datagram.now) (take l.place l.recording))))
