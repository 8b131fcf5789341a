-- What is read of the datagrams of a recording, one after another, as a listener is told it. DDSI-RTPS 2.5, 8.3.4 "The RTPS Message Receiver" and
-- 8.5 "Discovery Module". own: where fragments are read, they are acts too, and a sample of a built-in writer is told with the datagram that
-- completes it.
use Rattle.std.specs.Prelude.{ℕ, ◌+◌, List, [], ◌∷◌, filter, map}
use Rattle.rtps_receiver.specs.Values as values
use Rattle.rtps_audit.specs.Placed as placed
use Rattle.rtps_audit.specs.Speech as speech
use Rattle.rtps_fragments.specs.Announcements as announcements
use Rattle.rtps_fragments.specs.FragmentWalk as fragment_walk
use Rattle.rtps_fragments.specs.RecordedSamples as recorded_samples
use Rattle.rtps_fragments.specs.declared.fragments.Fragments.{Fragments}
use Rattle.rtps_fragments.specs.declared.listen.ReadDatagram.{ReadDatagram}

-- of a datagram its number, its acts, and of what it announces the DATA of built-in writers
pub record ReadDatagramValue : Type 0 where
  pub datagram : ℕ
  pub acts : List values.ActValue
  pub announcements : List placed.PlacedValue

-- the same, with lists where the type holds parts of what was read
abbrev pub read_datagram_value : ReadDatagram → ReadDatagramValue
read_datagram_value read =
    record {
      datagram = read.datagram;
      acts = map values.spoken_value read.acts.now;
      announcements = map placed.placed_value read.announcements.now;
    }

-- that of a datagram of this number, with these acts, which announces by those
abbrev pub datagram_read : ℕ → List values.ActValue → List values.ActValue → ReadDatagramValue
datagram_read datagram acts announcing = record { datagram = datagram; acts = acts; announcements = filter announcements.is_announcement (placed.placed_at datagram announcing) }

-- those of datagrams behind so many, with these acts, which announce by those
abbrev pub read_behind : ℕ → List (List values.ActValue) → List (List values.ActValue) → List ReadDatagramValue
read_behind before [] announcing = []
read_behind before (acts ∷ datagrams) [] = datagram_read (before + 1) acts [] ∷ read_behind (before + 1) datagrams []
read_behind before (acts ∷ datagrams) (announcing ∷ others) = datagram_read (before + 1) acts announcing ∷ read_behind (before + 1) datagrams others

-- the acts that are read of each datagram
abbrev pub acts_read : Fragments → List (List ℕ) → List (List values.ActValue)
acts_read Fragments.Skipped recording = speech.acts_by_datagram recording
acts_read Fragments.Read recording = map (map (λ one. one.act)) (fragment_walk.sending_of recording)

-- those of a recording
abbrev pub read_of : Fragments → List (List ℕ) → List ReadDatagramValue
read_of fragments recording = read_behind 0 (acts_read fragments recording) (recorded_samples.intake_as fragments recording).announcing
