use Rattle.std.proofs.Common.{arith}
use Rattle.std.proofs.lemmas.Bool.Decides.{nat_tests}
use Rattle.rtps_tool.proofs.LinesLemmas.{lines_of-whole}
use Rattle.rtps_tool.proofs.UnfinishedLemmas.{recording_behind-end, recording_behind-last}
use Rattle.rtps_tool.proofs.form.line_reader.LineReader.finish.Goals as goal

pub returns-then-is_empty : goal.returns-then-is_empty
returns-then-is_empty g c = λ done start told. record { all = done; told = told.told; stands = recording_behind-end _ _ _ _ (grind (arith, nat_tests)) }

pub returns : goal.returns
returns g c = λ done start told.
    recording_behind-last _ _ _ _ _ _ _ _ (lines_of-whole c.args.left.now (grind (arith, nat_tests)) c.requires.goes_on) c.without_return.ensures (c.read_line.ensures.told done start told)
