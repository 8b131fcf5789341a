use Rattle.std.proofs.Common.{Bor, ℕ, ◌≡◌, ◌+◌, ◌-◌, ◌∙◌, List, [], ap, arith, map, refl, subst, sym, take, rules}
use Rattle.std.proofs.lemmas.List.{length-drop, length-map, length-take-le, take-map, take_all}
use Rattle.rtps_audit.specs.Intake as intake
use Rattle.rtps_audit.specs.declared.report.Counts.{Counts}
use Rattle.rtps_fragments.specs.Announcements as announcements
use Rattle.rtps_fragments.specs.Merging as merging
use Rattle.rtps_fragments.specs.SampleActs as sample_acts
use Rattle.rtps_fragments.specs.FragmentWalk as fragment_walk
use Rattle.rtps_fragments.specs.ToldSamples as told_samples
use Rattle.rtps_fragments.specs.ReadDatagrams as read_datagrams
use Rattle.rtps_fragments.specs.RecordedSamples as recorded_samples
use Rattle.rtps_fragments.specs.declared.fragments.Fragments.{Fragments}
use Rattle.rtps_fragments.proofs.ReadDatagramLemmas.{next_number, read_more, read_stays}
use Rattle.rtps_fragments.proofs.IndexSteps.{announced_count, kept_at, taken, taken_more}
use Rattle.rtps_fragments.proofs.PlainStarts.{each_of, overheard_count, past, whole_behind}
use Rattle.rtps_fragments.proofs.SampleSteps.{octets_of}
use Rattle.rtps_fragments.proofs.WithoutFragments.{taken_plain}
use Rattle.rtps_fragments.proofs.sample_index.index_behind.Goals as goal

pub loop-place-init : goal.loop-place-init
loop-place-init g c =
    let n = c.args.start.datagrams in
    let so_far = octets_of (take n c.args.recording.now) in
    let none : recorded_samples.IsWithoutFragments so_far = subst recorded_samples.IsWithoutFragments (take-map (λ (datagram : Bor (List ℕ)). datagram.now) n c.args.recording.now) (c.requires.start.without refl) in
    record {
      indexed = search (rules, take-map, taken_plain, octets_of, each_of);
      heard = λ first was. subst (λ datagrams. g.L.Listen.has_heard first datagrams c.args.listener.now) (read_stays so_far none) was;
    }

pub index-requires : goal.index-requires
index-requires g c =
    let octets = octets_of c.args.recording.now in
    let n = c.args.start.datagrams in
    let count = overheard_count octets n c.args.samples.now (c.requires.start.without refl) c.requires.samples in
    omega (arith, count, length-drop n octets, length-map c.args.recording.now (λ datagram. datagram.now), c.loop-place-test.true, c.loop-place.auto.place)

pub note_datagram-requires-clause-next : goal.note_datagram-requires-clause-next
note_datagram-requires-clause-next g c =
    let recording = c.args.recording.now in
    let i = c.loop-place.place in
    let lt = c.loop-place-test.true in
    let (first, was) = c.requires.heard in
    (first, read_datagrams.read_of Fragments.Read (octets_of (take i recording)), c.loop-place.invariant.heard first was, next_number Fragments.Read recording i (omega (arith, lt)))

pub note_datagram-requires-clause-few : goal.note_datagram-requires-clause-few
note_datagram-requires-clause-few g c =
    let recording = c.args.recording.now in
    let i = c.loop-place.place in
    let counted = ap (λ (counts : Counts). counts.datagrams) (c.loop-place.invariant.indexed.index.counts 0) ∙ length-map (fragment_walk.sending_of (octets_of (take i recording))) (map (λ one. one.act))
    ∙ length-map (octets_of (take i recording)) fragment_walk.piece_acts_of ∙ length-map (take i recording) (λ datagram. datagram.now) ∙ length-take-le i recording (omega (arith, c.loop-place-test.true)) in
    omega (arith, counted, c.loop-place-test.true)

pub loop-place-preserved : goal.loop-place-preserved
loop-place-preserved g c =
    let recording = c.args.recording.now in
    let octets = octets_of recording in
    let samples = c.args.samples.now in
    let n = c.args.start.datagrams in
    let i = c.loop-place.place in
    let lt = c.loop-place-test.true in
    let le = c.loop-place.auto.place in
    let none = c.requires.start.without refl in
    let overheard = overheard_count octets n samples none c.requires.samples in
    let at = past octets n samples none c.requires.samples i le ∙ kept_at samples.overheard.items _ (i - n) c.index.result.now c.deref.result.now c.requires.samples.overheard (omega (arith, overheard, length-drop n octets, length-map recording (λ datagram. datagram.now), lt, le)) c.index.ensures c.deref.ensures.value in
    let more = taken_more recording i _ lt (map told_samples.told_value c.deref.result.now) at in
    record {
      indexed = subst (λ intake. announcements.IsIndexedBy intake c.note_datagram.new.reading.indexed) more
          (c.in_ok-note_datagram.ensures.index (taken recording i) (merging.sents_in (fragment_walk.sending_of octets)) (whole_behind octets n samples none c.requires.samples)
          (ap (λ n. n + 1) (sym (announced_count recording i (omega (arith, lt))))) c.loop-place.invariant.indexed);
      heard = λ first was.
          subst (λ datagrams. g.L.Listen.has_heard first datagrams c.note_datagram.new.listener) (sym (read_more recording i _ _ lt (ap (λ (intake : intake.Intake). intake.announcing) more)))
          (c.in_ok-note_datagram.ensures.heard first (read_datagrams.read_of Fragments.Read (octets_of (take i recording))) (c.loop-place.invariant.heard first was));
    }

pub returns-clause-heard : goal.returns-clause-heard
returns-clause-heard g c = λ first was.
    let recording = c.args.recording.now in
    let all : take c.loop-place.place recording ≡ recording = take_all c.loop-place.place recording (omega (arith, c.loop-place-test.false)) in
    subst (λ (read : List (Bor (List ℕ))). g.L.Listen.has_heard first (read_datagrams.read_of Fragments.Read (octets_of read)) c.loop-place.listener) all (c.loop-place.invariant.heard first was)
