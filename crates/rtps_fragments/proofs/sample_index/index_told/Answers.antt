use Rattle.std.proofs.Common.{Bor, ◌≡◌, ◌-◌, ℕ, List, drop, length, refl, subst, sym, take, ◌∙◌, ap}
use Rattle.std.proofs.Math.Seq.{take-length}
use Rattle.std.proofs.lemmas.List.{drop-map, length-drop, length-map}
use Rattle.rtps_audit.specs.Intake as intake
use Rattle.rtps_fragments.specs.Announcements as announcements
use Rattle.rtps_fragments.specs.ReadDatagrams as read_datagrams
use Rattle.rtps_fragments.specs.RecordedSamples as recorded_samples
use Rattle.rtps_fragments.specs.declared.announcements.Indexed.{Indexed}
use Rattle.rtps_fragments.specs.declared.fragments.Fragments.{Fragments}
use Rattle.rtps_fragments.specs.declared.sample_index.PlainStart.{PlainStart}
use Rattle.rtps_fragments.proofs.ReadDatagramLemmas.{read_stays}
use Rattle.rtps_fragments.proofs.SampleSteps.{octets_of}
use Rattle.rtps_fragments.proofs.WithoutFragments.{intake_stays}
use Rattle.rtps_fragments.proofs.sample_index.index_told.Goals as goal

-- all datagrams are taken in without samples
all_plain : (choice : Fragments) (recording : List (List ℕ)) (start : PlainStart) → recorded_samples.IsPlainStart choice recording start → start.datagrams ≡ length recording → announcements.IsIndexedBy (recorded_samples.intake_as choice recording) start.reading.indexed
all_plain choice recording start is all = by choice is.without
  where
    whole : take start.datagrams recording ≡ recording
    whole = ap (λ n. take n recording) all ∙ take-length recording

    plain : announcements.IsIndexedBy (intake.intake_of recording) start.reading.indexed
    plain = subst (λ (datagrams : List (List ℕ)). announcements.IsIndexedBy (intake.intake_of datagrams) start.reading.indexed) whole is.indexed

    by : (choice : Fragments) → (choice ≡ Fragments.Read → recorded_samples.IsWithoutFragments (take start.datagrams recording)) → announcements.IsIndexedBy (recorded_samples.intake_as choice recording) start.reading.indexed
    by Fragments.Skipped without = plain
    by Fragments.Read without = subst (λ (intake : intake.Intake). announcements.IsIndexedBy intake start.reading.indexed) (sym (intake_stays recording (subst recorded_samples.IsWithoutFragments whole (without refl)))) plain

-- and what was heard of them is what is read of all
plain_heard : (choice : Fragments) (xs : List (Bor (List ℕ))) (start : PlainStart) → recorded_samples.IsPlainStart choice (octets_of xs) start → start.datagrams ≡ length xs
    → read_datagrams.read_of Fragments.Skipped (octets_of (take start.datagrams xs)) ≡ read_datagrams.read_of choice (octets_of xs)
plain_heard choice xs start is all = ap (λ (those : List (Bor (List ℕ))). read_datagrams.read_of Fragments.Skipped (octets_of those)) (ap (λ n. take n xs) all ∙ take-length xs) ∙ by choice is.without
  where
    whole : take start.datagrams (octets_of xs) ≡ octets_of xs
    whole = ap (λ n. take n (octets_of xs)) (all ∙ sym (length-map xs (λ (datagram : Bor (List ℕ)). datagram.now))) ∙ take-length (octets_of xs)

    by : (choice : Fragments) → (choice ≡ Fragments.Read → recorded_samples.IsWithoutFragments (take start.datagrams (octets_of xs))) → read_datagrams.read_of Fragments.Skipped (octets_of xs) ≡ read_datagrams.read_of choice (octets_of xs)
    by Fragments.Skipped without = refl
    by Fragments.Read without = read_stays (octets_of xs) (subst recorded_samples.IsWithoutFragments whole (without refl))

-- where some are left, fragments are read
is_read : (choice : Fragments) (xs : List (Bor (List ℕ))) (start : PlainStart) → recorded_samples.IsPlainStart choice (octets_of xs) start → (start.datagrams ≡ length xs → ⊥) → choice ≡ Fragments.Read
is_read Fragments.Skipped xs start is left = absurd (left (is.all refl ∙ length-map xs (λ (datagram : Bor (List ℕ)). datagram.now)))
is_read Fragments.Read xs start is left = refl

pub returns-then-start-recording-clause-index : goal.returns-then-start-recording-clause-index
returns-then-start-recording-clause-index g c =
    let recording = c.args.source.recording.now in
    subst (λ (indexed : Indexed). announcements.IsIndexedBy (recorded_samples.intake_as c.args.source.fragments (octets_of recording)) indexed) (sym c.into_index.ensures)
    (all_plain c.args.source.fragments (octets_of recording) c.in_ok-start.start c.in_ok-start.ensures.start (c.if-start-recording.true ∙ sym (length-map recording (λ datagram. datagram.now))))

pub returns-then-start-recording-clause-heard : goal.returns-then-start-recording-clause-heard
returns-then-start-recording-clause-heard g c =
    subst (λ datagrams. g.L.Listen.has_heard c.args.listener.now datagrams c.plain_start.new.listener)
    (plain_heard c.args.source.fragments c.args.source.recording.now c.in_ok-start.start c.in_ok-start.ensures.start c.if-start-recording.true) c.in_ok-start.ensures.heard

pub index_behind-requires-clause-start : goal.index_behind-requires-clause-start
index_behind-requires-clause-start g c =
    let recording = c.args.source.recording.now in
    let start = c.in_ok-start.start in
    subst (λ (choice : Fragments). recorded_samples.IsPlainStart choice (octets_of recording) start) (is_read c.args.source.fragments recording start c.in_ok-start.ensures.start c.if-start-recording.false) c.in_ok-start.ensures.start

pub index_behind-requires-clause-samples : goal.index_behind-requires-clause-samples
index_behind-requires-clause-samples g c =
    let recording = c.args.source.recording.now in
    let n = c.in_ok-start.start.datagrams in
    let left : take (length recording - n) (drop n recording) ≡ drop n recording = ap (λ (m : ℕ). take m (drop n recording)) (sym (length-drop n recording)) ∙ take-length (drop n recording) in
    subst (λ (octets : List (List ℕ)). recorded_samples.AreSamplesOf octets c.in_ok-samples.samples)
    (ap octets_of left ∙ sym (drop-map (λ (datagram : Bor (List ℕ)). datagram.now) n recording)) c.in_ok-samples.ensures

pub index_behind-requires-clause-heard : goal.index_behind-requires-clause-heard
index_behind-requires-clause-heard g c = (c.args.listener.now, c.in_ok-start.ensures.heard)

pub returns-clause-index : goal.returns-clause-index
returns-clause-index g c =
    let recording = c.args.source.recording.now in
    subst (λ (choice : Fragments). announcements.IsIndexedBy (recorded_samples.intake_as choice (octets_of recording)) c.in_ok-indexed.indexed)
    (sym (is_read c.args.source.fragments recording c.in_ok-start.start c.in_ok-start.ensures.start c.if-start-recording.false)) c.in_ok-indexed.ensures.index

pub returns-clause-heard : goal.returns-clause-heard
returns-clause-heard g c =
    let recording = c.args.source.recording.now in
    subst (λ (choice : Fragments). g.L.Listen.has_heard c.args.listener.now (read_datagrams.read_of choice (octets_of recording)) c.index_behind.new.listener)
    (sym (is_read c.args.source.fragments recording c.in_ok-start.start c.in_ok-start.ensures.start c.if-start-recording.false)) (c.in_ok-indexed.ensures.heard c.args.listener.now c.in_ok-start.ensures.heard)
