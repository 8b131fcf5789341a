use Rattle.rtps_report.proofs.EndLemmas.{who_heard}
use Rattle.rtps_report.proofs.end.who_of.Goals as goal

pub returns : goal.returns
returns c = λ intake index same.
    who_heard intake c.args.read.now.directory.now.endpoints c.args.read.now.announcements.now (record { introductions = c.in_ok-introductions.introductions; told = c.in_ok-told.told }) same
    (c.in_ok-introductions.ensures, (λ announcing introduced. c.in_ok-told.ensures intake announcing index introduced))
