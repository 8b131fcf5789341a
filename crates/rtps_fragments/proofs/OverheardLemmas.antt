-- What came of samples, whoever they were sent to, with fragments more.
use Rattle.std.proofs.lemmas.Grind.{common_steps}
use Rattle.std.proofs.lemmas.Bool.Decides.{nat_tests}
use Rattle.std.proofs.Common.{◌≡◌, false, cond, List, [], ◌∷◌, ◌++◌, map, refl, ◌∙◌, ap, append-nil, arith}
use Rattle.std.specs.List.{flat_map}
use Rattle.rtps_fragments.specs.ToldSamples as told_samples
use Rattle.rtps_fragments.specs.declared.piece.SampleKey.{SampleKey}

pub overheard-more : (key : SampleKey) (before : List told_samples.SentValue) (sent : told_samples.SentValue) → told_samples.overheard key (before ++ sent ∷ []) ≡ told_samples.overheard key before ++ cond (told_samples.is_sample key sent.key) sent.came []
overheard-more key before sent = grind (arith, nat_tests, common_steps)

pub other_sample : (key : SampleKey) (before : List told_samples.SentValue) (sent : told_samples.SentValue) → told_samples.is_sample key sent.key ≡ false → told_samples.overheard key (before ++ sent ∷ []) ≡ told_samples.overheard key before
other_sample key before sent apart = overheard-more key before sent ∙ ap (λ b. told_samples.overheard key before ++ cond b sent.came []) apart ∙ append-nil (told_samples.overheard key before)
