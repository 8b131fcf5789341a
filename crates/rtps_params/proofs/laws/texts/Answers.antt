use Rattle.rtps_params.proofs.Texts.{text_is_spelled}
use Rattle.rtps_params.proofs.laws.texts.Goals as goal

pub returns : goal.returns
returns c = text_is_spelled
