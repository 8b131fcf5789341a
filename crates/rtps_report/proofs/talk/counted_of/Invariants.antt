use Rattle.std.proofs.Common.{Option, filter, map, take}
use Rattle.rtps_audit.specs.Index as index
use Rattle.rtps_audit.specs.Intake as intake
use Rattle.rtps_evidence.specs.OtherSide as other_side
use Rattle.rtps_report.specs.Asked as asked
use Rattle.rtps_report.specs.BestEfforts as best_efforts
use Rattle.rtps_who.specs.Recorded as recorded
use Rattle.rtps_report.specs.Rows as rows
use Rattle.rtps_report.specs.Talk as talk
use Rattle.rtps_report.proofs.talk.counted_of.Given as goal

abbrev pub invariant-loop-found : goal.invariant-loop-found
invariant-loop-found l =
    (intake : intake.Intake) (other : Option other_side.OtherRecording) → index.IsIndexBy intake l.read.index.now → other_side.IsOtherSide other l.read.other
    → talk.AreCounted (asked.asked_value l.read.asked.now) other intake l.read.directory.now.endpoints
    (filter (talk.is_counted_of l.talk.unfit l.talk.namings (rows.chosen_by (asked.asked_value l.read.asked.now) (recorded.node_in l.talk.who)) l.read.directory.now.endpoints) (take l.found-index l.matched)) (map best_efforts.counted_value l.counted.items)
