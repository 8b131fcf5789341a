use Rattle.std.proofs.Common.{◌≡◌, map, take}
use Rattle.rtps_report.specs.Asked as asked
use Rattle.rtps_report.specs.Events as events
use Rattle.rtps_report.specs.FullReport as full_report
use Rattle.rtps_report.specs.Talk as talk
use Rattle.rtps_report.proofs.events.found_in.Given as goal

-- those of the keys so far
abbrev pub invariant-loop-key : goal.invariant-loop-key
invariant-loop-key l =
    let report = full_report.report_value l.report in
    map events.event_value l.events.items ≡ map (events.event_of (asked.asked_value l.report.asked.now) (talk.talk_value l.report.talk) (full_report.lost_of report) (full_report.rows_of report)) (take l.key-index l.key-items)
