use Rattle.std.proofs.Common.{arith}
use Rattle.std.proofs.lemmas.List.{length-take}
use Rattle.rtps_tool.proofs.LinesLemmas.{position-take}
use Rattle.rtps_tool.proofs.UnfinishedLemmas.{recording_behind-comment-at, recording_behind-many, recording_behind-long}
use Rattle.rtps_tool.proofs.form.line_reader.LineReader.kept_of.Goals as goal

pub returns-then-line-eq35-clause-kept : goal.returns-then-line-eq35-clause-kept
returns-then-line-eq35-clause-kept c = (omega arith, omega arith, record { goes_on = position-take c.args.line.now 1 c.requires.goes_on; counted = omega (arith, length-take 1 c.args.line.now) })

pub returns-then-line-eq35-clause-told : goal.returns-then-line-eq35-clause-told
returns-then-line-eq35-clause-told c = λ done size later. recording_behind-comment-at _ done _ c.args.line.now later c.requires.goes_on (omega arith) c.if-line-eq35.true

pub returns-then-self-most-clause-told : goal.returns-then-self-most-clause-told
returns-then-self-most-clause-told c =
    λ done size later. recording_behind-many _ done _ c.args.line.now later c.requires.goes_on (omega arith) c.if-line-eq35.false (omega arith)

pub returns-clause-told : goal.returns-clause-told
returns-clause-told c = λ done size later. recording_behind-long _ done _ c.args.line.now later c.requires.goes_on (omega arith) c.if-line-eq35.false (omega arith)
