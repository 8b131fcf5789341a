use Rattle.std.proofs.Common.{◌≡◌, ◌≤◌, List, map, take}
use Rattle.rtps_fragments.specs.ToldSamples as told_samples
use Rattle.rtps_fragments.specs.Whole as whole
use Rattle.rtps_fragments.proofs.whole.WholeNumbers.left_among.Given as goal

-- those so far are counted
abbrev pub invariant-loop-sent : goal.invariant-loop-sent
invariant-loop-sent l =
    record {
      few : l.left ≤ l.sent-index;
      left : (all : List told_samples.SentValue) → whole.AreWholeIn all l.self → l.left ≡ whole.left_among all (map told_samples.sent_value (take l.sent-index l.sents));
    }
