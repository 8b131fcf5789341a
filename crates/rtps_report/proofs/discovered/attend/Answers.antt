use Rattle.std.proofs.Common.{Bor, ◌∙◌, ℕ, List, map}
use Rattle.rtps_report.proofs.TalkLemmas.{joined_then}
use Rattle.rtps_report.proofs.discovered.attend.Goals as goal

pub returns-clause-participants : goal.returns-clause-participants
returns-clause-participants c = λ intake index same announced.
    c.in_ok-participants.ensures intake index (joined_then intake c.args.read.now.announcements.now c.in_ok-joined.joined c.in_ok-joined.ensures same) c.in_ok-presences.ensures announced

pub returns-clause-visits : goal.returns-clause-visits
returns-clause-visits c = λ intake index same announced.
    let read = c.args.read.now in
    let recording = map (λ (datagram : Bor (List ℕ)). datagram.now) read.datagrams.now in
    let joined = joined_then intake read.announcements.now c.in_ok-joined.joined c.in_ok-joined.ensures same in
    c.in_ok-visits.ensures intake recording read.directory.now.participants c.in_ok-presences.ensures joined
    (c.deref.ensures.value ∙ c.in_ok-participants.ensures intake index joined c.in_ok-presences.ensures announced)
