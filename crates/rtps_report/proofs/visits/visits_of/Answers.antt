use Rattle.std.proofs.Common.{◌≡◌, ◌∙◌, List, ap, arith, length, subst}
use Rattle.std.proofs.lemmas.List.{length-map, take_all}
use Rattle.std.specs.BTreeMap.{get}
use Rattle.rtps_ids.specs.declared.identity.Guid.{Guid}
use Rattle.rtps_report.specs.Participants as participants
use Rattle.rtps_report.specs.Visits as visits
use Rattle.rtps_report.specs.Stays as stays
use Rattle.rtps_report.proofs.VisitLemmas.{visits_more}
use Rattle.rtps_report.proofs.visits.visits_of.Goals as goal

pub loop-participant-preserved : goal.loop-participant-preserved
loop-participant-preserved c = λ intake recording announced presences joined told prefix.
    visits_more intake recording c.args.seen.times.now c.args.seen.joined.now announced c.args.participants.now c.loop-participant.participant-index _ prefix
    (get stays.prefix_cmp c.loop-participant.visits prefix) (get stays.prefix_cmp c.note_visit.new.visits prefix) joined told c.loop-participant-test.true
    (c.in_ok-note_visit.ensures recording presences prefix) (c.loop-participant.invariant intake recording announced presences joined told prefix)

pub returns : goal.returns
returns c = λ intake recording announced presences joined told.
    let times = c.args.seen.times.now in
    let size : length c.args.participants.now ≡ length announced = ap length told ∙ length-map announced (participants.participant_told intake recording times) in
    subst (λ (those : List Guid). visits.AreVisitsIn intake recording times.of_datagrams those c.loop-participant.visits)
    (take_all c.loop-participant.participant-index announced (omega (arith, c.loop-participant-test.false, size)))
    (c.loop-participant.invariant intake recording announced presences joined told)
