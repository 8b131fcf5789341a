use Rattle.std.proofs.Common.{◌≡◌, map, take}
use Rattle.rtps_report.specs.NotTold as not_told
use Rattle.rtps_report.proofs.not_told.with_topics.Given as goal

-- those so far
abbrev pub invariant-loop-guid : goal.invariant-loop-guid
invariant-loop-guid l = map not_told.topic_end_value l.ends.items ≡ map (not_told.with_topic l.directory.endpoints) (take l.guid-index l.guids)
