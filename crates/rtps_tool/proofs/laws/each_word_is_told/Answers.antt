use Rattle.rtps_tool.proofs.SumsLemmas.{words_tell}
use Rattle.rtps_tool.proofs.laws.each_word_is_told.Goals as goal

pub returns : goal.returns
returns c = words_tell
