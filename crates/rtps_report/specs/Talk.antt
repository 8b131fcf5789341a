-- Who does not talk. DDS 1.4, 2.2.3 "Supported QoS"; DDSI-RTPS 2.5, 8.5 "Discovery Module" and 8.3.8.8 "InfoDestination".
-- own: rows tell what a reader got of a writer. If the two do not match, one never answers, or neither is heard here, no participant says
-- so: it is told beside the rows. So is how much a recording has of pairs of best effort, which no row is about.
use Rattle.std.specs.Prelude.{ℕ, ◌≡◌, ◌&&◌, ◌++◌, Bool, true, false, not, nat_lt, if◌then◌else◌, List, [], ◌∷◌, Option, Some, None, filter, map}
use Rattle.std.specs.BTreeMap.{get}
use Rattle.std.specs.BTreeSet.{BTreeSet, contains}
use Rattle.std.specs.List.{list_any}
use Rattle.rtps_ids.specs.declared.identity.Guid.{Guid}
use Rattle.rtps_ids.specs.declared.identity.GuidPrefix.{GuidPrefix}
use Rattle.rtps_discovery.specs.Directory as directory_spec
use Rattle.rtps_discovery.specs.Listings as listings
use Rattle.rtps_discovery.specs.Matching as matching
use Rattle.rtps_discovery.specs.declared.matching.Match.{Match}
use Rattle.rtps_discovery.specs.declared.matching.Pair.{Pair}
use Rattle.rtps_audit.specs.Index as index
use Rattle.rtps_audit.specs.Intake as intake_spec
use Rattle.rtps_audit.specs.Placed as placed
use Rattle.rtps_evidence.specs.Explanation as explanation
use Rattle.rtps_evidence.specs.Locations as locations
use Rattle.rtps_evidence.specs.OtherSide as other_side
use Rattle.rtps_evidence.specs.Times as times
use Rattle.rtps_evidence.specs.Recorded as evidence_recorded
use Rattle.rtps_fragments.specs.Announcements as announcements
use Rattle.rtps_fragments.specs.RecordedSamples as recorded_samples
use Rattle.rtps_fragments.specs.declared.fragments.Fragments.{Fragments}
use Rattle.rtps_policies.specs.Namings as namings
use Rattle.rtps_policies.specs.OneWays as one_ways
use Rattle.rtps_policies.specs.Silence as silence
use Rattle.rtps_policies.specs.Unmatched as unmatched_spec
use Rattle.rtps_policies.specs.declared.naming.Namings.{Namings}
use Rattle.rtps_known.specs.Places as places
use Rattle.rtps_policies.specs.declared.one_way.OneWay.{OneWay}
use Rattle.rtps_policies.specs.declared.silence.Silence.{Silence}
use Rattle.rtps_who.specs.Naming as naming
use Rattle.rtps_who.specs.Recorded as who_recorded
use Rattle.rtps_who.specs.Samples as samples
use Rattle.rtps_report.specs.ActsRead as acts_read
use Rattle.rtps_report.specs.Asked as asked
use Rattle.rtps_report.specs.BestEfforts as best_efforts
use Rattle.rtps_report.specs.Ends as ends_spec
use Rattle.rtps_report.specs.LateMatches as late_matches
use Rattle.rtps_report.specs.MatchingActs as matching_acts
use Rattle.rtps_report.specs.NotTold as not_told
use Rattle.rtps_report.specs.Participants as participants
use Rattle.rtps_report.specs.Recording as recording
use Rattle.rtps_report.specs.Rows as rows
use Rattle.rtps_report.specs.TwoLives as two_lives
use Rattle.rtps_report.specs.Ways as ways
use Rattle.rtps_report.specs.declared.late_matches.LateMatch.{LateMatch}
use Rattle.rtps_report.specs.declared.participant.Participant.{Participant}
use Rattle.rtps_report.specs.declared.talk.ReadRecording.{ReadRecording}
use Rattle.rtps_report.specs.declared.talk.LeftOut.{LeftOut}
use Rattle.rtps_report.specs.declared.talk.Talk.{Talk}
use Rattle.rtps_report.specs.declared.two_lives.TwoLives.{TwoLives}
use Rattle.rtps_report.specs.declared.ways.Ways.{Ways}

-- a match that is left out, and its topic
pub record LeftOutValue : Type 0 where
  pub topic : List ℕ
  pub pair : Pair

-- that of the code, as a value
abbrev pub left_out_value : LeftOut → LeftOutValue
left_out_value one = record { topic = one.topic.now; pair = one.pair }

-- who does not talk: by what each end is known, the node of each endpoint, the nodes of each participant, why pairs are silent, which writers and readers do not match, which of them talk all the
-- same, which matches are left out, who talks one way, the pairs of best effort by topic, those of them that are held against another
-- recording, what arrived of these by topic, by how many pairs of best effort the two recordings are which way round, the participants, who was
-- never told of whose endpoints, who has two lives, and which pairs matched late
pub record TalkValue : Type 0 where
  pub ends : Guid → ends_spec.EndValue
  pub node : Guid → Option samples.NodeValue
  pub nodes : GuidPrefix → List samples.NodeValue
  pub silence : Pair → Silence
  pub unmatched : List unmatched_spec.UnmatchedValue
  pub talking : List unmatched_spec.UnmatchedValue
  pub left_out : List LeftOutValue
  pub one_way : List OneWay
  pub best_effort : List best_efforts.BestEffortValue
  pub best_effort_total : best_efforts.BestEffortValue
  pub held : List best_efforts.HeldValue
  pub held_sums : List best_efforts.BestEffortValue
  pub held_total : best_efforts.BestEffortValue
  pub ways : Ways
  pub participants : List Participant
  pub not_told : List not_told.NotToldValue
  pub lives : List TwoLives
  pub late : Pair → Option LateMatch

-- that of the code, as a value
abbrev pub talk_value : Talk → TalkValue
talk_value talk =
    record {
      ends = ends_spec.end_kept talk.who talk.announced;
      node = who_recorded.node_in talk.who;
      nodes = who_recorded.nodes_in talk.who;
      silence = silence.silence_by talk.announced talk.namings;
      unmatched = map unmatched_spec.unmatched_value talk.unmatched.items;
      talking = map unmatched_spec.unmatched_value talk.talking.items;
      left_out = map left_out_value talk.left_out.items;
      one_way = talk.one_way.items;
      best_effort = map best_efforts.best_effort_value talk.best_effort.items;
      best_effort_total = best_efforts.best_effort_value talk.best_effort_total;
      held = map best_efforts.held_value talk.held.items;
      held_sums = map best_efforts.best_effort_value talk.held_sums.items;
      held_total = best_efforts.best_effort_value talk.held_total;
      ways = talk.ways;
      participants = talk.participants.items;
      not_told = map not_told.not_told_value talk.not_told.items;
      lives = talk.lives.items;
      late = get listings.pair_cmp talk.late;
    }

-- ---- pairs that do not match

-- The reader of a pair acknowledges numbers of the writer, so the two matched each other, whatever the standard says of their policies
abbrev pub talks : intake_spec.Intake → Pair → Bool
talks intake pair = locations.acknowledges pair.writer pair.reader (placed.placed_in intake.acts)

-- two pairs are the same
abbrev pub is_pair : Pair → Pair → Bool
is_pair one other = placed.is_guid one.writer other.writer && placed.is_guid one.reader other.reader

-- the two of a pair are among those that do not match
abbrev pub is_unfit : List unmatched_spec.UnmatchedValue → Pair → Bool
is_unfit unmatched pair = list_any (λ one. is_pair (unmatched_spec.pair_of one) pair) unmatched

-- these are the pairs of those
abbrev pub AreUnfit : List unmatched_spec.UnmatchedValue → BTreeSet Pair → Type 0
AreUnfit unmatched pairs = (pair : Pair) → contains listings.pair_cmp pairs pair ≡ is_unfit unmatched pair

-- the two are asked for
abbrev pub is_asked : rows.Choice → unmatched_spec.UnmatchedValue → Bool
is_asked chosen one = chosen one.writer.endpoint.topic (unmatched_spec.pair_of one)

-- those that are asked for, whether they talk or not
abbrev pub unfit_in : rows.Choice → silence.Traffic → directory_spec.Entries → List unmatched_spec.UnmatchedValue
unfit_in chosen traffic entries = filter (is_asked chosen) (unmatched_spec.unmatched_among traffic.announcing (directory_spec.settled_in entries))

-- ---- pairs of best effort

-- the reader's participant names the writer's
abbrev pub is_named : silence.Traffic → Pair → Bool
is_named traffic pair = nat_lt 0 (namings.named_in traffic.datagrams (record { source = pair.reader.prefix; dest = pair.writer.prefix }))

-- a match is counted: not both are reliable, all policies fit, it is asked for, and the recording can speak of it
abbrev pub is_counted : rows.Choice → silence.Traffic → List unmatched_spec.UnmatchedValue → directory_spec.Entries → Match → Bool
is_counted chosen traffic unfit entries found =
    not found.reliable && (not (is_unfit unfit found.pair)
    && (chosen (explanation.topic_of (directory_spec.settled_at entries found.pair.writer)) found.pair && is_named traffic found.pair))

-- the same by what is kept
abbrev pub is_counted_by : BTreeSet Pair → Namings → rows.Choice → List ℕ → Match → Bool
is_counted_by unfit namings chosen topic found =
    not found.reliable && (not (contains listings.pair_cmp unfit found.pair)
    && (chosen topic found.pair && rows.is_named_by namings found.pair))

-- the same, with the topic of the match looked up
abbrev pub is_counted_of : BTreeSet Pair → Namings → rows.Choice → directory_spec.Entries → Match → Bool
is_counted_of unfit namings chosen entries found = is_counted_by unfit namings chosen (explanation.topic_of (directory_spec.settled_at entries found.pair.writer)) found

-- ---- matches that are left out

-- all policies of a match fit, it is asked for, and the recording cannot speak of it
abbrev pub is_left_out : rows.Choice → silence.Traffic → List unmatched_spec.UnmatchedValue → directory_spec.Entries → Match → Bool
is_left_out chosen traffic unfit entries found =
    not (is_unfit unfit found.pair) && (chosen (explanation.topic_of (directory_spec.settled_at entries found.pair.writer)) found.pair && not (is_named traffic found.pair))

-- it with its topic
abbrev pub left_out_of : directory_spec.Entries → Match → LeftOutValue
left_out_of entries found = record { topic = explanation.topic_of (directory_spec.settled_at entries found.pair.writer); pair = found.pair }

-- ---- what is counted

-- what is counted of a pair, which may be held against another recording
pub record IsPairCounted (asked : asked.AskedValue) (other : Option other_side.OtherRecording) (intake : intake_spec.Intake) (pair : Pair) (one : best_efforts.CountedValue) : Type 0 where
  pub of_pair : one.pair ≡ pair
  pub recorded : evidence_recorded.IsRecordedBy true asked.from pair intake one.recorded
  pub arrived : evidence_recorded.IsArrivedBy true asked.from other pair intake one.arrived

-- what is counted of these matches, one by one
abbrev pub AreCounted : asked.AskedValue → Option other_side.OtherRecording → intake_spec.Intake → directory_spec.Entries → List Match → List best_efforts.CountedValue → Type 0
AreCounted asked other intake entries [] [] = Unit {0}
AreCounted asked other intake entries [] (one ∷ counted) = ⊥
AreCounted asked other intake entries (found ∷ matches) [] = ⊥
AreCounted asked other intake entries (found ∷ matches) (one ∷ counted) =
    (one.topic ≡ explanation.topic_of (directory_spec.settled_at entries found.pair.writer)) × IsPairCounted asked other intake found.pair one
    × AreCounted asked other intake entries matches counted

-- which pairs are asked for, by the nodes that a recording tells
abbrev pub choice_in : asked.AskedValue → intake_spec.Intake → directory_spec.Entries → rows.Choice
choice_in asked intake entries = rows.chosen_by asked (naming.node_of (ends_spec.recorded_in intake entries))

-- the sums of those that are counted, those of them that are held, the sums of these by what arrived, and which way round the two recordings
-- are
pub record AreBestEffortIn (asked : asked.AskedValue) (other : Option other_side.OtherRecording) (intake : intake_spec.Intake) (traffic : silence.Traffic) (entries : directory_spec.Entries) (talk : TalkValue) : Type 0 where
  pub counted : List best_efforts.CountedValue
  pub are_counted : AreCounted asked other intake entries (filter (is_counted (choice_in asked intake entries) traffic (unfit_in (choice_in asked intake entries) traffic entries) entries) (matching.matches_among (directory_spec.settled_in entries))) counted
  pub are_sums : best_efforts.AreSumsOf counted talk.best_effort
  pub is_total : talk.best_effort_total ≡ best_efforts.total_of counted
  pub are_held : talk.held ≡ best_efforts.held_among counted
  pub are_held_sums : best_efforts.AreSumsOf (best_efforts.arrived_among counted) talk.held_sums
  pub is_held_total : talk.held_total ≡ best_efforts.total_of (best_efforts.arrived_among counted)
  pub are_ways : talk.ways ≡ ways.ways_of_counted counted

-- ---- pairs that matched late

-- the acts of a recording by which that is told, of which this is taken in, and whose datagrams came then
abbrev pub acts_of_matching : intake_spec.Intake → List (List ℕ) → List (Option ℕ) → List places.PlacedAct
acts_of_matching intake recording times = matching_acts.matching_acts (announcements.announcements_in intake.announcing) recording times

-- the pairs of which rows may be: those of reliable matches, and those that talk though they do not match
abbrev pub judged_pairs : List Match → List unmatched_spec.UnmatchedValue → List Pair
judged_pairs matches talking = matching.reliable_pairs matches ++ map unmatched_spec.pair_of talking

-- where the two of one of these pairs matched late by these acts, if they did
abbrev pub late_among : List places.PlacedAct → List TwoLives → List Pair → Pair → Option LateMatch
late_among acts lives pairs pair = if list_any (λ one. is_pair one pair) pairs then late_matches.late_of acts lives pair else None

-- what is kept of a pair, with one match more, if that is late and of the pair
abbrev pub late_kept : Bool → Option LateMatch → Option LateMatch → Option LateMatch
late_kept false found kept = kept
late_kept true None kept = kept
late_kept true (Some found) kept = Some found

-- ---- all of it

-- what is said of participants: by what announces, and by all acts that are read
abbrev pub traffic_of : List (List ℕ) → silence.Traffic
traffic_of recording = record { announcing = intake_spec.acts_together (recorded_samples.intake_as Fragments.Read recording).announcing; datagrams = acts_read.datagrams_read recording }

-- which pairs of a recording are asked for
abbrev pub choice_of : asked.AskedValue → List (List ℕ) → directory_spec.Entries → rows.Choice
choice_of asked recording entries = choice_in asked (recorded_samples.intake_as Fragments.Read recording) entries

-- who does not talk in a recording, of which the datagrams came then, of the topics that are asked for. There may be another recording
pub record IsTalkOf (asked : asked.AskedValue) (other : Option other_side.OtherRecording) (recording : List (List ℕ)) (times : times.TimesValue) (talk : TalkValue) : Type 0 where
  pub directory : directory_spec.DirectoryValue
  pub is_map : directory_spec.IsMapOf (traffic_of recording).announcing directory
  pub ends : (guid : Guid) → talk.ends guid ≡ ends_spec.end_of (ends_spec.recorded_in (recorded_samples.intake_as Fragments.Read recording) directory.endpoints) guid
  pub node : (guid : Guid) → talk.node guid ≡ naming.node_of (ends_spec.recorded_in (recorded_samples.intake_as Fragments.Read recording) directory.endpoints) guid
  pub nodes : (prefix : GuidPrefix) → talk.nodes prefix ≡ naming.nodes_of_participant (ends_spec.recorded_in (recorded_samples.intake_as Fragments.Read recording) directory.endpoints) prefix
  pub silence : (pair : Pair) → talk.silence pair ≡ silence.silence_of (traffic_of recording) pair
  pub unmatched : talk.unmatched ≡ filter (λ one. not (talks (recorded_samples.intake_as Fragments.Read recording) (unmatched_spec.pair_of one))) (unfit_in (choice_of asked recording directory.endpoints) (traffic_of recording) directory.endpoints)
  pub talking : talk.talking ≡ filter (λ one. talks (recorded_samples.intake_as Fragments.Read recording) (unmatched_spec.pair_of one)) (unfit_in (choice_of asked recording directory.endpoints) (traffic_of recording) directory.endpoints)
  pub left_out : talk.left_out
      ≡ map (left_out_of directory.endpoints) (filter (is_left_out (choice_of asked recording directory.endpoints) (traffic_of recording) (unfit_in (choice_of asked recording directory.endpoints) (traffic_of recording) directory.endpoints) directory.endpoints)
      (matching.matches_among (directory_spec.settled_in directory.endpoints)))
  pub one_way : one_ways.AreOneWayIn (traffic_of recording) talk.one_way
  pub best_effort : AreBestEffortIn asked other (recorded_samples.intake_as Fragments.Read recording) (traffic_of recording) directory.endpoints talk
  pub participants : talk.participants
      ≡ map (participants.participant_told (recorded_samples.intake_as Fragments.Read recording) recording times) directory.participants
  pub not_told : not_told.AreNotToldIn (recorded_samples.intake_as Fragments.Read recording) recording times.of_datagrams directory talk.not_told
  pub lives : two_lives.AreTwoLivesIn recording times.of_datagrams talk.lives
  pub late : (pair : Pair) → talk.late pair
      ≡ late_among (acts_of_matching (recorded_samples.intake_as Fragments.Read recording) recording times.of_datagrams) talk.lives (judged_pairs (matching.matches_among (directory_spec.settled_in directory.endpoints)) talk.talking) pair

-- the same of a recording with its times
abbrev pub IsTalkAs : asked.AskedValue → Option other_side.OtherRecording → recording.RecordingValue → TalkValue → Type 0
IsTalkAs asked other recording talk = IsTalkOf asked other recording.datagrams recording.times talk

-- what is known of a recording to say so: its index, the other recording, if there is one, what it announces, and the DATA of built-in
-- writers, which announce it
pub record IsReadIn (intake : intake_spec.Intake) (other : Option other_side.OtherRecording) (read : ReadRecording) : Type 0 where
  pub index : index.IsIndexBy intake read.index.now
  pub beside : other_side.IsOtherSide other read.other
  pub directory : directory_spec.IsMapOf (intake_spec.acts_together intake.announcing) read.directory.now
  pub announcements : map placed.placed_value read.announcements.now ≡ announcements.announcements_in intake.announcing

-- what is kept of those that do not match, and of who names whom
pub record IsKeptOf (asked : asked.AskedValue) (intake : intake_spec.Intake) (traffic : silence.Traffic) (entries : directory_spec.Entries) (talk : Talk) : Type 0 where
  pub unfit : AreUnfit (unfit_in (choice_in asked intake entries) traffic entries) talk.unfit
  pub namings : namings.AreNamingsOf traffic.datagrams talk.namings
  pub talking : map unmatched_spec.unmatched_value talk.talking.items ≡ filter (λ one. talks intake (unmatched_spec.pair_of one)) (unfit_in (choice_in asked intake entries) traffic entries)
  pub nodes : (guid : Guid) → who_recorded.node_in talk.who guid ≡ naming.node_of (ends_spec.recorded_in intake entries) guid

-- all policies of a match fit, it is asked for, and the recording cannot speak of it, by what is kept
abbrev pub is_left_out_by : BTreeSet Pair → Namings → rows.Choice → List ℕ → Match → Bool
is_left_out_by unfit namings chosen topic found =
    not (contains listings.pair_cmp unfit found.pair) && (chosen topic found.pair && not (rows.is_named_by namings found.pair))

-- the same, with the topic of the match looked up
abbrev pub is_left_out_of : BTreeSet Pair → Namings → rows.Choice → directory_spec.Entries → Match → Bool
is_left_out_of unfit namings chosen entries found = is_left_out_by unfit namings chosen (explanation.topic_of (directory_spec.settled_at entries found.pair.writer)) found
