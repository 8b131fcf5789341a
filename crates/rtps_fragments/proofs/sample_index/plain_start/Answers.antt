use Rattle.std.proofs.lemmas.Grind.{common_steps}
use Rattle.std.proofs.lemmas.Bool.Decides.{nat_tests}
use Rattle.std.proofs.Common.{Bor, ℕ, ◌≡◌, ◌<◌, true, false, List, get_or, length, slice_get, ◌+◌, ◌∙◌, ◌++◌, ◌∷◌, [], ap, arith, subst, sym, take, rules}
use Rattle.std.proofs.Math.Seq.{take-length}
use Rattle.std.proofs.lemmas.List.{length-map, take-map, take_all}
use Rattle.std.proofs.lemmas.Option.{slice_get-get_or, slice_get_within}
use Rattle.rtps_audit.proofs.Offered.{get_mapped}
use Rattle.std.proofs.Common.{Some}
use Rattle.rtps_wire.specs.Reading as reading_spec
use Rattle.rtps_wire.specs.Tally as tally_spec
use Rattle.rtps_wire.specs.declared.counts.Tally.{Tally}
use Rattle.rtps_audit.specs.Intake as intake
use Rattle.rtps_audit.specs.declared.report.Counts.{Counts}
use Rattle.rtps_audit.proofs.Offered.{intake_on}
use Rattle.rtps_fragments.specs.Announcements as announcements
use Rattle.rtps_fragments.specs.ReadDatagrams as read_datagrams
use Rattle.rtps_fragments.specs.RecordedSamples as recorded_samples
use Rattle.rtps_fragments.specs.declared.fragments.Fragments.{Fragments}
use Rattle.rtps_fragments.specs.declared.sample_index.Reading.{Reading}
use Rattle.rtps_fragments.proofs.ReadDatagramLemmas.{next_number, skipped_more}
use Rattle.rtps_fragments.proofs.SampleSteps.{octets_of}
use Rattle.rtps_fragments.proofs.WithoutFragments.{plain_count, without_more}
use Rattle.rtps_fragments.proofs.sample_index.plain_start.Goals as goal
use Rattle.rtps_fragments.proofs.sample_index.plain_start.Goals.{else-are_read-via-then-are_read+else-tally-gt0, else-are_read-via-else-are_read}

some_is : {X : Type 0} (x y : X) → Some x ≡ Some y → x ≡ y
some_is x y e = cc

-- the datagrams before this one, which has a submessage of fragments
stopped : (choice : Fragments) (xs : List (Bor (List ℕ))) (i : ℕ) (d : Bor (List ℕ)) (tally : Tally) (reading : Reading) → i < length xs → choice ≡ Fragments.Read → tally ≡ tally_spec.tally_of (reading_spec.reading_of (get_or xs i d).now) → 0 < tally.fragments
    → announcements.IsIndexedBy (intake.intake_of (octets_of (take i xs))) reading.indexed → (choice ≡ Fragments.Read → recorded_samples.IsWithoutFragments (octets_of (take i xs)))
    → recorded_samples.IsPlainStart choice (octets_of xs) (record { reading = reading; datagrams = i })
stopped choice xs i d tally reading lt read counted some indexed without =
    let octets : Bor (List ℕ) → List ℕ = λ datagram. datagram.now in
    let front : octets_of (take i xs) ≡ take i (octets_of xs) = sym (take-map octets i xs) in
    let there : slice_get (octets_of xs) i ≡ Some (get_or xs i d).now = get_mapped octets xs i (get_or xs i d) (slice_get-get_or xs i d lt) in
    record {
      count = (let size = length-map xs octets in omega (arith, lt, size));
      all = λ skipped. absurd (let clash : Fragments.Read ≡ Fragments.Skipped = sym read ∙ skipped in cc);
      without = λ is. subst recorded_samples.IsWithoutFragments front (without is);
      ends = λ is other at. subst (λ (one : List ℕ). 0 < (tally_spec.tally_of (reading_spec.reading_of one)).fragments) (some_is _ _ (sym there ∙ at)) (subst (λ (counts : Tally). 0 < counts.fragments) counted some);
      indexed = subst (λ (datagrams : List (List ℕ)). announcements.IsIndexedBy (intake.intake_of datagrams) reading.indexed) front indexed;
    }

pub note-requires-clause-next : goal.note-requires-clause-next
note-requires-clause-next g c =
    let le = c.loop-place.auto.place-end in
    (c.args.listener.now, read_datagrams.read_of Fragments.Skipped (octets_of (take c.loop-place.place c.args.source.recording.now)), c.loop-place.invariant.heard, next_number Fragments.Skipped c.args.source.recording.now c.loop-place.place le)

pub note-requires-clause-few : goal.note-requires-clause-few
note-requires-clause-few g c =
    let recording = c.args.source.recording.now in
    let i = c.loop-place.place in
    let counted = ap (λ (counts : Counts). counts.datagrams) (c.loop-place.invariant.indexed.index.counts 0) ∙ plain_count recording i (omega (arith, c.loop-place-test.true)) in
    omega (arith, counted, c.loop-place-test.true)

pub loop-place-preserved : goal.loop-place-preserved
loop-place-preserved g c =
    let recording = c.args.source.recording.now in
    let i = c.loop-place.place in
    let lt = c.loop-place-test.true in
    record {
      indexed = subst (λ intake. announcements.IsIndexedBy intake c.note.new.self)
          (intake_on recording i _ _ _ _ lt c.in_ok-tally.ensures.tally (c.acts-in-loop-place.ensures ∙ c.in_ok-tally.ensures.acts) (c.acts-in-loop-place-2.ensures ∙ c.in_ok-tally.ensures.acts))
          (c.in_ok-note.ensures.index (intake.intake_of (octets_of (take i recording))) (ap (λ n. n + 1) (sym (plain_count recording i (omega (arith, lt))))) c.loop-place.invariant.indexed);
      heard =
          let own = c.acts.ensures ∙ c.in_ok-tally.ensures.acts in
          let announcing = c.acts-in-loop-place-2.ensures ∙ c.in_ok-tally.ensures.acts in
          subst (λ datagrams. g.L.Listen.has_heard c.args.listener.now datagrams c.note.new.listener)
          ((λ j. read_datagrams.read_of Fragments.Skipped (octets_of (take i recording)) ++ read_datagrams.datagram_read (i + 1) (own j) (announcing j) ∷ []) ∙ sym (skipped_more recording i _ lt))
          (c.in_ok-note.ensures.heard c.args.listener.now (read_datagrams.read_of Fragments.Skipped (octets_of (take i recording))) c.loop-place.invariant.heard);
      without = λ read. elim c.else-are_read.branch [
        | else-are_read-via-then-are_read+else-tally-gt0 w ↦ without_more recording i _ c.in_ok-tally.tally lt (c.loop-place.invariant.without read) c.in_ok-tally.ensures.tally (omega (arith, w.if-tally-gt0.false))
        | else-are_read-via-else-are_read w ↦ absurd (let clash : true ≡ false = sym (c.are_read.ensures.1 read) ∙ w.if-are_read.false in cc)
      ];
    }

pub returns-then-tally-gt0-clause-start : goal.returns-then-tally-gt0-clause-start
returns-then-tally-gt0-clause-start g c =
    stopped c.args.source.fragments c.args.source.recording.now c.loop-place.place _ c.in_ok-tally.tally _ c.loop-place-test.true (c.are_read.ensures.0 c.if-are_read.true) c.in_ok-tally.ensures.tally
    (let more = c.if-tally-gt0.true in omega (arith, more)) c.loop-place.invariant.indexed c.loop-place.invariant.without

pub returns-clause-start : goal.returns-clause-start
returns-clause-start g c = grind (arith, nat_tests, common_steps, octets_of, length-map, take-length, slice_get_within)

pub returns-clause-heard : goal.returns-clause-heard
returns-clause-heard g c =
    let recording = c.args.source.recording.now in
    let all : take c.loop-place.place recording ≡ take (length recording) recording = take_all c.loop-place.place recording (omega (arith, c.loop-place-test.false)) ∙ sym (take-length recording) in
    subst (λ (read : List (Bor (List ℕ))). g.L.Listen.has_heard c.args.listener.now (read_datagrams.read_of Fragments.Skipped (octets_of read)) c.loop-place.listener) all c.loop-place.invariant.heard
