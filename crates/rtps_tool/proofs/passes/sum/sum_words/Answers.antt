use Rattle.std.proofs.Common.{arith}
use Rattle.std.proofs.lemmas.List.Sums.{fold_more}
use Rattle.rtps_tool.proofs.passes.sum.sum_words.Goals as goal

pub loop-word-preserved : goal.loop-word-preserved
loop-word-preserved c = grind (arith, fold_more)
