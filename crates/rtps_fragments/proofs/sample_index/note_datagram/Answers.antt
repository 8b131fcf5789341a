use Rattle.std.proofs.Common.{◌≡◌, ◌+◌, ◌∙◌, ◌++◌, ◌∷◌, [], List, ap, map, subst}
use Rattle.rtps_wire.specs.Reading as reading
use Rattle.rtps_wire.specs.Tally as tally
use Rattle.rtps_wire.specs.declared.counts.Tally.{Tally}
use Rattle.rtps_receiver.specs.Values as values
use Rattle.rtps_audit.specs.Intake as intake_spec
use Rattle.rtps_fragments.specs.Announcements as announcements
use Rattle.rtps_fragments.specs.Merging as merging
use Rattle.rtps_fragments.specs.ReadDatagrams as read_datagrams
use Rattle.rtps_fragments.specs.SampleActs as sample_acts
use Rattle.rtps_fragments.specs.FragmentWalk as fragment_walk
use Rattle.rtps_fragments.specs.ToldSamples as told_samples
use Rattle.rtps_fragments.specs.Whole as whole_spec
use Rattle.rtps_fragments.proofs.sample_index.note_datagram.Goals as goal

pub returns-clause-index : goal.returns-clause-index
returns-clause-index g c = λ intake all whole number is.
    let octets = c.args.octets.now in
    let sending = c.read.new.self in
    let sent = c.in_ok-read.ensures.acts in
    let plain = tally.tally_of (reading.reading_of octets) in
    let tally : c.tally-tally.result ≡ whole_spec.tally_left all octets =
    c.tally-tally.ensures all whole ∙ ap (λ (t : Tally). whole_spec.tally_with_fragments t (sending.unusable + whole_spec.left_among all (map told_samples.sent_value sending.sents.items))) c.in_ok-read.ensures.plain
    ∙ ap (λ n. whole_spec.tally_with_fragments plain (n + whole_spec.left_among all (map told_samples.sent_value sending.sents.items))) sent.unusable ∙ ap (λ (ss : List told_samples.SentValue). whole_spec.tally_with_fragments plain (fragment_walk.unusable_in octets + whole_spec.left_among all ss)) sent.sents in
    let noted = map told_samples.told_value c.args.samples.now.overheard.now in
    let own = map (λ (one : sample_acts.PieceAct). one.act) (fragment_walk.piece_acts_of octets) in
    let acts : map values.spoken_value c.deref-3.result.now ≡ own = ap (map values.spoken_value) c.deref-3.ensures.value ∙ sent.acts in
    let announcing : map values.spoken_value c.deref-4.result.now ≡ merging.merged_from 0 own noted =
    ap (map values.spoken_value) c.deref-4.ensures.value ∙ c.in_ok-merge.ensures ∙ ap (λ ones. merging.merged_from 0 ones noted) (ap (map values.spoken_value) c.deref.ensures.value ∙ sent.acts) in
    subst (λ (t : Tally). announcements.IsIndexedBy (intake_spec.intake_more intake t own (merging.merged_from 0 own noted)) c.note.new.self) tally
    (subst (λ (ones : List values.ActValue). announcements.IsIndexedBy (intake_spec.intake_more intake c.tally-tally.result ones (merging.merged_from 0 own noted)) c.note.new.self) acts
    (subst (λ (ones : List values.ActValue). announcements.IsIndexedBy (intake_spec.intake_more intake c.tally-tally.result (map values.spoken_value c.deref-3.result.now) ones) c.note.new.self) announcing (c.in_ok-note.ensures.index intake number is)))

pub returns-clause-heard : goal.returns-clause-heard
returns-clause-heard g c = λ start before was.
    let octets = c.args.octets.now in
    let number = c.args.samples.now.datagram in
    let sent = c.in_ok-read.ensures.acts in
    let noted = map told_samples.told_value c.args.samples.now.overheard.now in
    let own = map (λ (one : sample_acts.PieceAct). one.act) (fragment_walk.piece_acts_of octets) in
    let acts : map values.spoken_value c.deref-2.result.now ≡ own = ap (map values.spoken_value) c.deref-2.ensures.value ∙ sent.acts in
    let announcing : map values.spoken_value c.deref-4.result.now ≡ merging.merged_from 0 own noted =
    ap (map values.spoken_value) c.deref-4.ensures.value ∙ c.in_ok-merge.ensures ∙ ap (λ ones. merging.merged_from 0 ones noted) (ap (map values.spoken_value) c.deref.ensures.value ∙ sent.acts) in
    subst (λ (ones : List values.ActValue). g.L.Listen.has_heard start (before ++ read_datagrams.datagram_read number ones (merging.merged_from 0 own noted) ∷ []) c.note.new.listener) acts
    (subst (λ (ones : List values.ActValue). g.L.Listen.has_heard start (before ++ read_datagrams.datagram_read number (map values.spoken_value c.deref-2.result.now) ones ∷ []) c.note.new.listener) announcing
    (c.in_ok-note.ensures.heard start before was))
