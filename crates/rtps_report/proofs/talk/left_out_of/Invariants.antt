use Rattle.std.proofs.Common.{◌≡◌, filter, map, take}
use Rattle.rtps_report.specs.Asked as asked
use Rattle.rtps_who.specs.Recorded as recorded
use Rattle.rtps_report.specs.Rows as rows
use Rattle.rtps_report.specs.Talk as talk
use Rattle.rtps_report.proofs.talk.left_out_of.Given as goal

abbrev pub invariant-loop-found : goal.invariant-loop-found
invariant-loop-found l =
    map talk.left_out_value l.left.items ≡ map (talk.left_out_of l.read.directory.now.endpoints)
    (filter (talk.is_left_out_of l.talk.unfit l.talk.namings (rows.chosen_by (asked.asked_value l.read.asked.now) (recorded.node_in l.talk.who)) l.read.directory.now.endpoints) (take l.found-index l.matched))
