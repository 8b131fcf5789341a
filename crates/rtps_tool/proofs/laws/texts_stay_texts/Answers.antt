use Rattle.rtps_tool.proofs.LimitsLemmas.{texts_stay}
use Rattle.rtps_tool.proofs.laws.texts_stay_texts.Goals as goal

pub returns : goal.returns
returns c = texts_stay
