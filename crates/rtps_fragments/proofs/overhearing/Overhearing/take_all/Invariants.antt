use Rattle.std.proofs.Common.{◌≡◌, ◌++◌, List, map, take}
use Rattle.rtps_fragments.specs.Making as making
use Rattle.rtps_fragments.specs.ToldSamples as told_samples
use Rattle.rtps_fragments.proofs.overhearing.Overhearing.take_all.Given as goal

-- what the acts so far tell
abbrev pub invariant-loop-sent : goal.invariant-loop-sent
invariant-loop-sent l =
    (before : List told_samples.SentValue) → making.IsOverhearing before l.fn.self → making.IsOverhearing (before ++ map told_samples.sent_value (take l.sent-index l.sents)) l.self
    × (map told_samples.told_value l.told.items ≡ told_samples.overheard_in_turn before (map told_samples.sent_value (take l.sent-index l.sents)))
