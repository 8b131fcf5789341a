-- All of who does not talk, by what is kept.
use Rattle.std.proofs.Common.{◌≡◌, ◌∙◌, ℕ, List, Option, ap, filter, map, not, subst}
use Rattle.rtps_discovery.specs.Directory as directory_spec
use Rattle.std.specs.BTreeMap.{get}
use Rattle.rtps_discovery.specs.Listings as listings
use Rattle.rtps_discovery.specs.Matching as matching
use Rattle.rtps_discovery.specs.declared.matching.Pair.{Pair}
use Rattle.rtps_audit.specs.Intake as intake
use Rattle.rtps_evidence.specs.OtherSide as other_side
use Rattle.rtps_evidence.specs.Times as times
use Rattle.rtps_fragments.specs.RecordedSamples as recorded_samples
use Rattle.rtps_policies.specs.Announcing as announcing
use Rattle.rtps_policies.specs.Namings as namings
use Rattle.rtps_policies.specs.OneWays as one_ways
use Rattle.rtps_policies.specs.Silence as silence
use Rattle.rtps_policies.specs.Unmatched as unmatched
use Rattle.rtps_who.specs.Recorded as recorded
use Rattle.rtps_who.proofs.Offered.{node_is, nodes_are}
use Rattle.rtps_report.specs.Asked as asked
use Rattle.rtps_report.specs.BestEfforts as best_efforts
use Rattle.rtps_report.specs.Ends as ends
use Rattle.rtps_report.specs.NotTold as not_told
use Rattle.rtps_report.specs.Participants as participants
use Rattle.rtps_report.specs.Talk as talk_spec
use Rattle.rtps_report.specs.TwoLives as two_lives
use Rattle.rtps_report.specs.Ways as ways
use Rattle.rtps_fragments.specs.declared.fragments.Fragments.{Fragments}
use Rattle.rtps_report.specs.declared.talk.Talk.{Talk}
use Rattle.rtps_report.proofs.EndLemmas.{end_is}
use Rattle.rtps_report.proofs.TalkLemmas.{counted_alike, left_alike, silence_is}

-- what is kept, by those that were found not to match
pub kept_is : (asked : asked.AskedValue) (intake : intake.Intake) (traffic : silence.Traffic) (entries : directory_spec.Entries) (talk : Talk) (found : List unmatched.UnmatchedValue) → found ≡ talk_spec.unfit_in (talk_spec.choice_in asked intake entries) traffic entries
    → talk_spec.AreUnfit found talk.unfit → namings.AreNamingsOf traffic.datagrams talk.namings → map unmatched.unmatched_value talk.talking.items ≡ filter (λ one. talk_spec.talks intake (unmatched.pair_of one)) found
    → recorded.IsWhoIn (ends.recorded_in intake entries) talk.who → talk_spec.IsKeptOf asked intake traffic entries talk
kept_is asked intake traffic entries talk found same unfit namings talking who =
    record {
      unfit = subst (λ those. talk_spec.AreUnfit those talk.unfit) same unfit;
      namings = namings;
      talking = talking ∙ ap (filter (λ (one : unmatched.UnmatchedValue). talk_spec.talks intake (unmatched.pair_of one))) same;
      nodes = node_is (ends.recorded_in intake entries) talk.who who;
    }

pub talk_is : (asked : asked.AskedValue) (other : Option other_side.OtherRecording) (recording : List (List ℕ)) (times : times.TimesValue) (directory : directory_spec.DirectoryValue) (talk : Talk) (counted : List best_efforts.CountedValue)
    → directory_spec.IsMapOf (talk_spec.traffic_of recording).announcing directory → announcing.IsAnnouncedBy (talk_spec.traffic_of recording).announcing talk.announced
    → recorded.IsWhoIn (ends.recorded_in (recorded_samples.intake_as Fragments.Read recording) directory.endpoints) talk.who
    → talk_spec.IsKeptOf asked (recorded_samples.intake_as Fragments.Read recording) (talk_spec.traffic_of recording) directory.endpoints talk
    → map unmatched.unmatched_value talk.unmatched.items ≡ filter (λ one. not (talk_spec.talks (recorded_samples.intake_as Fragments.Read recording) (unmatched.pair_of one))) (talk_spec.unfit_in (talk_spec.choice_of asked recording directory.endpoints) (talk_spec.traffic_of recording) directory.endpoints)
    → map talk_spec.left_out_value talk.left_out.items
    ≡ map (talk_spec.left_out_of directory.endpoints) (filter (talk_spec.is_left_out_of talk.unfit talk.namings (talk_spec.choice_of asked recording directory.endpoints) directory.endpoints) (matching.matches_among (directory_spec.settled_in directory.endpoints)))
    → one_ways.AreOneWayIn (talk_spec.traffic_of recording) talk.one_way.items
    → talk_spec.AreCounted asked other (recorded_samples.intake_as Fragments.Read recording) directory.endpoints
    (filter (talk_spec.is_counted_of talk.unfit talk.namings (talk_spec.choice_of asked recording directory.endpoints) directory.endpoints) (matching.matches_among (directory_spec.settled_in directory.endpoints))) counted
    → best_efforts.AreSumsOf counted (map best_efforts.best_effort_value talk.best_effort.items) → best_efforts.best_effort_value talk.best_effort_total ≡ best_efforts.total_of counted
    → map best_efforts.held_value talk.held.items ≡ best_efforts.held_among counted
    → best_efforts.AreSumsOf (best_efforts.arrived_among counted) (map best_efforts.best_effort_value talk.held_sums.items) → best_efforts.best_effort_value talk.held_total ≡ best_efforts.total_of (best_efforts.arrived_among counted)
    → talk.ways ≡ ways.ways_of_counted counted
    → talk.participants.items ≡ map (participants.participant_told (recorded_samples.intake_as Fragments.Read recording) recording times) directory.participants
    → not_told.AreNotToldIn (recorded_samples.intake_as Fragments.Read recording) recording times.of_datagrams directory (map not_told.not_told_value talk.not_told.items) → two_lives.AreTwoLivesIn recording times.of_datagrams talk.lives.items
    → ((pair : Pair) → get listings.pair_cmp talk.late pair ≡ talk_spec.late_among (talk_spec.acts_of_matching (recorded_samples.intake_as Fragments.Read recording) recording times.of_datagrams) talk.lives.items
    (talk_spec.judged_pairs (matching.matches_among (directory_spec.settled_in directory.endpoints)) (map unmatched.unmatched_value talk.talking.items)) pair)
    → talk_spec.IsTalkOf asked other recording times (talk_spec.talk_value talk)
talk_is asked other recording times directory talk counted map_of announced who kept unmatched left one_way are sums total held held_sums held_total ways participants not_told lives late =
    let traffic = talk_spec.traffic_of recording in
    let recorded = ends.recorded_in (recorded_samples.intake_as Fragments.Read recording) directory.endpoints in
    let chosen = talk_spec.choice_of asked recording directory.endpoints in
    let unfit = talk_spec.unfit_in chosen traffic directory.endpoints in
    let matches = matching.matches_among (directory_spec.settled_in directory.endpoints) in
    let alike = counted_alike chosen traffic unfit directory.endpoints talk.unfit talk.namings kept.unfit kept.namings matches in
    record {
      directory = directory;
      is_map = map_of;
      ends = end_is recorded talk.who talk.announced who announced;
      node = node_is recorded talk.who who;
      nodes = nodes_are recorded talk.who who;
      silence = silence_is traffic talk.announced talk.namings announced kept.namings;
      unmatched = unmatched;
      talking = kept.talking;
      left_out = left ∙ ap (map (talk_spec.left_out_of directory.endpoints)) (left_alike chosen traffic unfit directory.endpoints talk.unfit talk.namings kept.unfit kept.namings matches);
      one_way = one_way;
      best_effort = record {
        counted = counted;
        are_counted = subst (λ matches. talk_spec.AreCounted asked other (recorded_samples.intake_as Fragments.Read recording) directory.endpoints matches counted) alike are;
        are_sums = sums;
        is_total = total;
        are_held = held;
        are_held_sums = held_sums;
        is_held_total = held_total;
        are_ways = ways;
      };
      participants = participants;
      not_told = not_told;
      lives = lives;
      late = late;
    }
