use Rattle.std.proofs.Common.{◌∙◌, sym}
use Rattle.rtps_report.proofs.ParticipantLemmas.{place_taken, place_there}
use Rattle.rtps_report.proofs.participant.keep_place.Goals as goal

pub returns-in_ok-insert : goal.returns-in_ok-insert
returns-in_ok-insert c = λ other.
    place_taken c.args.joined.now c.insert.new.self c.args.guid other c.args.place (sym c.contains_key.ensures ∙ c.if-not-contains_key.true) c.in_ok-insert.ensures.updates

pub returns-else-not-contains_key : goal.returns-else-not-contains_key
returns-else-not-contains_key c = λ other. place_there c.args.joined.now c.args.guid other c.args.place (sym c.contains_key.ensures ∙ c.if-not-contains_key.false)
