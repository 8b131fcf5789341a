use Rattle.std.proofs.Common.{ap}
use Rattle.std.specs.Option.{option_map}
use Rattle.rtps_receiver.specs.Values as values
use Rattle.rtps_known.specs.Matched as matched
use Rattle.rtps_known.proofs.MatchLemmas.{first_more, first_same}
use Rattle.rtps_known.proofs.matches.note_joined.Goals as goal

pub returns-in_default : goal.returns-in_default
returns-in_default c = λ acts were.
    first_same matched.joining_told acts (record { act = values.spoken_value c.args.act.now; place = c.args.place }) c.args.joined.now.entries
    (ap (option_map (λ guid. (guid, c.args.place))) c.in_default.ensures) were

pub returns : goal.returns
returns c = λ acts were.
    first_more matched.joining_told acts (record { act = values.spoken_value c.args.act.now; place = c.args.place }) c.args.joined.now.entries c.keep_first.new.kept.entries
    (c.in-Some.guid, c.args.place) (ap (option_map (λ guid. (guid, c.args.place))) c.in-Some.ensures) c.in_ok-keep_first.ensures.ok were
