use Rattle.rtps_fragments.proofs.FewFragments.{few_fragments_make_no_sample}
use Rattle.rtps_fragments.proofs.laws.few_fragments_make_no_sample.Goals as goal

pub returns : goal.returns
returns c = few_fragments_make_no_sample
