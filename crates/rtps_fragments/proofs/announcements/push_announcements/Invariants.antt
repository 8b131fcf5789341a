use Rattle.std.proofs.Common.{◌≡◌, ◌++◌, map, take}
use Rattle.rtps_receiver.specs.Values as values
use Rattle.rtps_audit.specs.Placed as placed
use Rattle.rtps_fragments.proofs.AnnouncementLemmas.{announcements_at}
use Rattle.rtps_fragments.proofs.announcements.push_announcements.Given as goal

-- those of the acts so far
abbrev pub invariant-loop-act : goal.invariant-loop-act
invariant-loop-act l = map placed.placed_value l.found.items ≡ map placed.placed_value l.fn.found.items ++ announcements_at l.datagram (map values.spoken_value (take l.act-index l.acts))
