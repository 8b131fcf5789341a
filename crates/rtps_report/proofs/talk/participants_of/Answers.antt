use Rattle.std.proofs.Common.{Bor, ◌∙◌, ℕ, List, ap, map}
use Rattle.std.proofs.lemmas.List.{take_all}
use Rattle.rtps_audit.specs.Intake as intake_spec
use Rattle.rtps_report.specs.Participants as participants
use Rattle.rtps_report.proofs.TalkLemmas.{leaves_then, participant_is, participants_more}
use Rattle.rtps_report.proofs.talk.participants_of.Goals as goal

pub loop-guid-preserved : goal.loop-guid-preserved
loop-guid-preserved c = λ intake index joined presences announced.
    let read = c.args.read.now in
    let recording = map (λ (datagram : Bor (List ℕ)). datagram.now) read.datagrams.now in
    let times = read.times.now in
    let left = leaves_then intake c.args.seen.joined.now _ c.copied.result c.left_of-left.result joined
    (c.copied.ensures ∙ c.get.ensures.value) (c.left_of-left.ensures intake index) in
    participants_more (participants.participant_told intake recording times) c.deref-guid-items.result.now c.loop-guid.participants.items c.push.new.self.items c.loop-guid.guid-index _ _
    c.loop-guid-test.true c.in_ok-push.ensures.items
    (participant_is intake recording times _ c.host-host.result c.stay.result c.left_of-left.result c.latest-latest.result c.of_last_frame-end.result c.is_silent.result
    (c.host-host.ensures.announced (intake_spec.acts_together intake.announcing) announced) (c.stay.ensures recording times.of_datagrams presences) left
    (c.latest-latest.ensures recording times.of_datagrams presences) c.of_last_frame-end.ensures c.is_silent.ensures)
    (c.loop-guid.invariant intake index joined presences announced)

pub returns : goal.returns
returns c = λ intake index joined presences announced.
    let read = c.args.read.now in
    c.loop-guid.invariant intake index joined presences announced
    ∙ ap (map (participants.participant_told intake (map (λ (datagram : Bor (List ℕ)). datagram.now) read.datagrams.now) read.times.now))
    (take_all c.loop-guid.guid-index c.deref-guid-items.result.now c.loop-guid-test.false ∙ c.deref-guid-items.ensures.value ∙ c.in_ok-participants.ensures)
