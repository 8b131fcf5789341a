use Rattle.std.proofs.Common.{◌≡◌, ℕ, ◌++◌, List, drop, map}
use Rattle.rtps_fragments.specs.Heard as heard
use Rattle.rtps_fragments.specs.Samples as samples
use Rattle.rtps_fragments.specs.ToldSamples as told_samples
use Rattle.rtps_fragments.proofs.heard.Heard.tell.Given as goal

-- what is told, with what is left to tell, is all that is told
abbrev pub invariant-loop-place : goal.invariant-loop-place
invariant-loop-place l =
    (came : List (ℕ × List ℕ)) → heard.IsHeard l.last came l.fn.self
    → map told_samples.told_value l.told.items ++ told_samples.told_as l.sent.act (told_samples.shape_of l.sent.key) (drop l.place (samples.samples_of l.last (came ++ (told_samples.sent_value l.sent).came)))
    ≡ map told_samples.told_value l.fn.told.items ++ told_samples.told_by_sent (told_samples.sent_value l.sent) came
