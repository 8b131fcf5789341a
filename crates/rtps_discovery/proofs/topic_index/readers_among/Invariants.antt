use Rattle.std.proofs.Common.{◌≡◌, take}
use Rattle.rtps_discovery.specs.TopicIndex as topic_index
use Rattle.rtps_discovery.proofs.topic_index.readers_among.Given as goal

-- the readers so far
abbrev pub invariant-loop-endpoint : goal.invariant-loop-endpoint
invariant-loop-endpoint l = l.readers.items ≡ topic_index.readers_among (take l.endpoint-index l.endpoints)
