-- What is taken in of a recording with fragments, and the samples of its built-in writers, datagram by datagram. DDSI-RTPS 2.5, 8.3.8.3
-- "DataFrag". own: a sample is told by the act that completes it. An index has the acts as they are sent, and what one reader hears of
-- them is found for this reader.
use Rattle.std.specs.Prelude.{ℕ, ◌≡◌, ◌+◌, ◌<◌, ◌≤◌, All, List, [], ◌∷◌, ◌++◌, Some, length, map, slice_get, take}
use Rattle.rtps_wire.specs.Reading as reading
use Rattle.rtps_wire.specs.Tally as tally
use Rattle.rtps_wire.specs.declared.counts.Tally.{Tally}
use Rattle.rtps_audit.specs.Intake as intake
use Rattle.rtps_fragments.specs.Announcements as announcements
use Rattle.rtps_fragments.specs.Announcing as announcing
use Rattle.rtps_fragments.specs.Merging as merging
use Rattle.rtps_fragments.specs.SampleActs as sample_acts
use Rattle.rtps_fragments.specs.SamplesSent as samples_sent
use Rattle.rtps_fragments.specs.FragmentWalk as fragment_walk
use Rattle.rtps_fragments.specs.ToldSamples as told_samples
use Rattle.rtps_fragments.specs.Whole as whole
use Rattle.rtps_fragments.specs.declared.fragments.Fragments.{Fragments}
use Rattle.rtps_fragments.specs.declared.sample_index.PlainStart.{PlainStart}
use Rattle.rtps_fragments.specs.declared.samples.Samples.{Samples}

-- what the acts of each datagram tell a listener that hears everything, of built-in writers, behind what was sent before
abbrev pub overheard_from : List told_samples.SentValue → List (List sample_acts.PieceAct) → List (List told_samples.ToldValue)
overheard_from before [] = []
overheard_from before (acts ∷ recording) = told_samples.overheard_in_turn before (merging.sents_from 0 acts) ∷ overheard_from (before ++ merging.sents_from 0 acts) recording

-- These are the samples of a recording, which is the octets of its datagrams in the order of sending.
pub record AreSamplesOf (recording : List (List ℕ)) (samples : Samples) : Type 0 where
  pub overheard : map (λ told. map told_samples.told_value told.items) samples.overheard.items ≡ overheard_from [] (fragment_walk.sending_of recording)
  pub whole : whole.AreWholeOf recording samples.whole

-- how many DATA_FRAG of a datagram are of no sample that is ever whole, among all acts of a recording: those that have no fragments that can
-- be used, and those of a number of which no sample is whole
abbrev pub fragments_left : List sample_acts.PieceAct → List ℕ → ℕ
fragments_left all octets = fragment_walk.unusable_in octets + samples_sent.pieces_left all (fragment_walk.piece_acts_of octets)

-- the tally of a datagram, of which these are counted as fragments
abbrev pub tally_with : List sample_acts.PieceAct → List ℕ → Tally
tally_with all octets = whole.tally_with_fragments (tally.tally_of (reading.reading_of octets)) (fragments_left all octets)

-- what an index takes in of a recording where fragments are read: the acts as they are sent, and those that announce with the samples of
-- built-in writers among them. The DATA_FRAG of no sample are counted
abbrev pub intake_with : List (List ℕ) → intake.Intake
intake_with recording =
    record {
      tallies = map (tally_with (sample_acts.piece_acts_in (fragment_walk.sending_of recording))) recording;
      acts = sample_acts.acts_sent (fragment_walk.sending_of recording);
      announcing = announcing.announcing_with (fragment_walk.sending_of recording);
    }

-- the same, where fragments are read, and where they are skipped
abbrev pub intake_as : Fragments → List (List ℕ) → intake.Intake
intake_as Fragments.Skipped recording = intake.intake_of recording
intake_as Fragments.Read recording = intake_with recording

-- no submessage of these datagrams belongs to fragments
abbrev pub IsWithoutFragments : List (List ℕ) → Type 0
IsWithoutFragments recording = All (λ datagram. (tally.tally_of (reading.reading_of datagram)).fragments ≡ 0) recording

-- These are the first datagrams of a recording, taken in without samples: where fragments are read, those before the first one that has some,
-- and all where they are skipped.
pub record IsPlainStart (choice : Fragments) (recording : List (List ℕ)) (start : PlainStart) : Type 0 where
  pub count : start.datagrams ≤ length recording
  pub all : choice ≡ Fragments.Skipped → start.datagrams ≡ length recording
  pub without : choice ≡ Fragments.Read → IsWithoutFragments (take start.datagrams recording)
  pub ends : choice ≡ Fragments.Read → (octets : List ℕ) → slice_get recording start.datagrams ≡ Some octets → 0 < (tally.tally_of (reading.reading_of octets)).fragments
  pub indexed : announcements.IsIndexedBy (intake.intake_of (take start.datagrams recording)) start.reading.indexed
