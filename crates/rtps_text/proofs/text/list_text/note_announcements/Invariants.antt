use Rattle.std.proofs.Common.{◌≡◌, ◌*◌, ◌≤◌, ◌^◌, map, take}
use Rattle.rtps_audit.specs.Placed as placed
use Rattle.rtps_discovery.specs.Directory as directory
use Rattle.rtps_discovery.specs.Notice as notice
use Rattle.rtps_text.proofs.ListLemmas.{acts_of_placed}
use Rattle.rtps_text.proofs.text.list_text.note_announcements.Given as goal

-- by those so far
abbrev pub invariant-loop-placed : goal.invariant-loop-placed
invariant-loop-placed l =
    directory.IsMapOf (acts_of_placed (map placed.placed_value (take l.placed-index l.announcements))) l.directory
    × (l.faults ≡ notice.faults_in (acts_of_placed (map placed.placed_value (take l.placed-index l.announcements))))
    × (l.faults ≤ l.placed-index * 2 ^ 64)
