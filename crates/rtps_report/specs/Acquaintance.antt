-- Who knows whom in a recording, by the datagrams that were heard. DDSI-RTPS 2.5, 8.5.4 "The Simple Endpoint Discovery Protocol" and 8.3.8.3
-- "DataFrag". own: it is kept datagram by datagram, so that each is read once.
use Rattle.std.specs.Prelude.{ℕ, ◌==◌, ◌≡◌, if◌then◌else◌, List, [], ◌∷◌, filter, flat_map, map, Option}
use Rattle.rtps_audit.specs.Placed as placed
use Rattle.rtps_evidence.specs.Times as times_spec
use Rattle.rtps_evidence.specs.UnansweredLaw as unanswered_law
use Rattle.rtps_fragments.specs.RecordedSamples as recorded_samples
use Rattle.rtps_fragments.specs.ReadDatagrams as read_datagrams
use Rattle.rtps_fragments.specs.declared.fragments.Fragments.{Fragments}
use Rattle.rtps_known.specs.Matched as matched
use Rattle.rtps_known.specs.Places as places
use Rattle.rtps_known.specs.Recorded as recorded
use Rattle.rtps_known.specs.Tellings as tellings
use Rattle.rtps_policies.specs.Namings as namings
use Rattle.rtps_receiver.specs.Values as values
use Rattle.rtps_report.specs.ActsRead as acts_read
use Rattle.rtps_report.specs.MatchingActs as matching_acts
use Rattle.rtps_report.specs.Talk as talk
use Rattle.rtps_report.specs.declared.acquaintance.Acquaintance.{Acquaintance}
use Rattle.rtps_report.specs.declared.acquaintance.Came.{Came}

-- the samples that an act completes, of these of its datagram
abbrev pub samples_at : values.ActValue → List placed.PlacedValue → List values.ActValue
samples_at act samples = map (λ placed. matching_acts.sent_as act placed.act) (filter (λ placed. placed.act.at == act.at) samples)

-- an act, and those behind it
abbrev pub with_samples_at : List placed.PlacedValue → values.ActValue → List values.ActValue
with_samples_at samples act = act ∷ (if unanswered_law.is_data_frag act.body then samples_at act samples else [])

-- acts of a datagram that came so, each with those behind it, of these samples of the datagram
abbrev pub acts_heard : Came → List placed.PlacedValue → List values.ActValue → List places.PlacedAct
acts_heard came samples acts = map (matching_acts.act_placed came) (flat_map (with_samples_at samples) acts)

-- the acts of a datagram, each with the time of the datagram, where datagrams came then
abbrev pub timed_heard : List (Option ℕ) → read_datagrams.ReadDatagramValue → List tellings.TimedAct
timed_heard times read = acts_read.acts_at (times_spec.time_of times read.datagram) read.acts

-- the same acts, each in its place, with those behind it
abbrev pub placed_heard : List (Option ℕ) → read_datagrams.ReadDatagramValue → List places.PlacedAct
placed_heard times read = acts_heard (matching_acts.came_as times read.datagram) read.announcements read.acts

-- from what it was at first, this is kept of these datagrams
pub record HasHeard (start : Acquaintance) (datagrams : List read_datagrams.ReadDatagramValue) (kept : Acquaintance) : Type 0 where
  pub times : kept.times.now ≡ start.times.now
  pub namings : namings.AreNamingsOf (map (λ read. read.acts) datagrams) kept.namings
  pub known : recorded.IsKnownOf (flat_map (timed_heard start.times.now.of_datagrams) datagrams) kept.known
  pub matches : matched.AreMatchesOf (flat_map (placed_heard start.times.now.of_datagrams) datagrams) kept.matches

-- this is kept of a recording, whose datagrams came then
pub record IsAcquaintanceOf (recording : List (List ℕ)) (times : List (Option ℕ)) (kept : Acquaintance) : Type 0 where
  pub namings : namings.AreNamingsOf (acts_read.datagrams_read recording) kept.namings
  pub known : recorded.IsKnownOf (acts_read.timed_acts recording times) kept.known
  pub matches : matched.AreMatchesOf (talk.acts_of_matching (recorded_samples.intake_as Fragments.Read recording) recording times) kept.matches
