use Rattle.rtps_receiver.specs.Values as values
use Rattle.rtps_known.specs.Matched as matched
use Rattle.rtps_known.proofs.MatchLemmas.{first_more, first_same}
use Rattle.rtps_known.proofs.matches.note_issue.Goals as goal

pub returns-in_default : goal.returns-in_default
returns-in_default c = λ acts were. first_same matched.issue_told acts (record { act = values.spoken_value c.args.act.now; place = c.args.place }) c.args.issues.now.entries c.in_default.ensures were

pub returns : goal.returns
returns c = λ acts were.
    first_more matched.issue_told acts (record { act = values.spoken_value c.args.act.now; place = c.args.place }) c.args.issues.now.entries c.keep_first.new.kept.entries
    (c.in-Some.guid, c.in-Some.issue) c.in-Some.ensures c.in_ok-keep_first.ensures.ok were
