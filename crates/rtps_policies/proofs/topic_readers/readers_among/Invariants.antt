use Rattle.std.proofs.Common.{◌≡◌, take}
use Rattle.rtps_policies.specs.TopicReaders as topic_readers
use Rattle.rtps_policies.proofs.topic_readers.readers_among.Given as goal

-- the readers so far
abbrev pub invariant-loop-profile : goal.invariant-loop-profile
invariant-loop-profile l = l.readers.items ≡ topic_readers.readers_among (take l.profile-index l.profiles)
