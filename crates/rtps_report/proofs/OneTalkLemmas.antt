-- Of a recording it is told in one way who does not talk.
use Rattle.std.proofs.Common.{◌≡◌, ◌∙◌, ℕ, ◌+◌, Bool, false, MatchOption, Option, Some, None, List, [], ◌∷◌, All, Contains, ap, ap₂, filter, map, not, refl, subst, sym, true}
use Rattle.std.proofs.lemmas.Bool.{false≢true}
use Rattle.std.specs.Cmp.{IsTotalOrder}
use Rattle.std.specs.Cmp.Lexicographic.{slice_cmp}
use Rattle.std.specs.Ordering.{nat_cmp}
use Rattle.std.proofs.lemmas.Cmp.{nat_list_cmp_total, on_total, then_total}
use Rattle.std.proofs.lemmas.List.Elements.{All-contains_itself, All-weaker}
use Rattle.std.proofs.lemmas.Map.Lookups.{CmpEqualImpliesEq, exact_bytes, exact_pairs}
use Rattle.rtps_discovery.specs.Directory as directory
use Rattle.rtps_discovery.specs.Matching as matching
use Rattle.rtps_discovery.specs.declared.matching.Match.{Match}
use Rattle.rtps_discovery.specs.declared.matching.Pair.{Pair}
use Rattle.rtps_discovery.proofs.Offered.{from_map, into_map}
use Rattle.rtps_audit.specs.Intake as intake
use Rattle.rtps_audit.specs.Placed as placed
use Rattle.rtps_audit.specs.Said as said
use Rattle.rtps_evidence.specs.OtherSide as other_side
use Rattle.rtps_evidence.specs.Recorded as recorded
use Rattle.rtps_evidence.specs.Spans as spans_spec
use Rattle.rtps_evidence.specs.declared.first_numbers.FirstNumbers.{FirstNumbers}
use Rattle.rtps_evidence.specs.declared.recorded.Arrived.{Arrived}
use Rattle.rtps_evidence.specs.declared.recorded.ArrivedNumbers.{ArrivedNumbers}
use Rattle.rtps_evidence.specs.declared.recorded.Recorded.{Recorded}
use Rattle.rtps_evidence.specs.declared.span.Span.{Span}
use Rattle.rtps_evidence.specs.declared.way.Way.{Way}
use Rattle.rtps_evidence.proofs.Offered.{HasOneMap, one_extent}
use Rattle.rtps_evidence.specs.Times as times
use Rattle.rtps_fragments.specs.RecordedSamples as recorded_samples
use Rattle.rtps_fragments.specs.declared.fragments.Fragments.{Fragments}
use Rattle.rtps_policies.specs.Namings as namings
use Rattle.rtps_policies.specs.OneWays as one_ways
use Rattle.rtps_policies.specs.Silence as silence
use Rattle.rtps_policies.specs.Unmatched as unmatched
use Rattle.rtps_policies.specs.declared.naming.Naming.{Naming}
use Rattle.rtps_policies.specs.declared.one_way.OneWay.{OneWay}
use Rattle.rtps_report.specs.Asked as asked
use Rattle.rtps_report.specs.BestEfforts as best_efforts
use Rattle.rtps_report.specs.Laws as laws
use Rattle.rtps_report.specs.NotTold as not_told
use Rattle.rtps_report.specs.Participants as participants
use Rattle.rtps_report.specs.Recording as recording
use Rattle.rtps_report.specs.Talk as talk
use Rattle.rtps_report.specs.Ways as ways
use Rattle.std.proofs.Math.Path.{fun_ext}
use Rattle.rtps_ids.specs.declared.identity.GuidPrefix.{GuidPrefix}
use Rattle.rtps_ids.specs.declared.identity.Guid.{Guid}
use Rattle.rtps_who.specs.Naming as naming
use Rattle.rtps_who.specs.Samples as samples
use Rattle.rtps_report.specs.Ends as ends
use Rattle.rtps_policies.specs.declared.silence.Silence.{Silence}
use Rattle.rtps_report.specs.declared.participant.Participant.{Participant}
use Rattle.rtps_report.specs.declared.late_matches.LateMatch.{LateMatch}
use Rattle.rtps_report.specs.declared.two_lives.TwoLives.{TwoLives}
use Rattle.rtps_report.specs.declared.ways.Ways.{Ways}
use Rattle.rtps_report.proofs.NotToldOnce.{not_told_once}
use Rattle.rtps_report.proofs.TwoLivesOnce.{two_lives_once}
use Rattle.rtps_report.proofs.SameLists.{same_keys, same_members}

-- ---- pairs of best effort

one_recorded : HasOneMap → (spans : Bool) (from : ℕ) (pair : Pair) (intake : intake.Intake) (one other : Recorded) → recorded.IsRecordedBy spans from pair intake one → recorded.IsRecordedBy spans from pair intake other → one ≡ other
one_recorded unique spans from pair intake one other is also =
    let span : is.span ≡ also.span = one_extent unique spans from pair intake is.span also.span is.is_extent also.is_extent in
    let same = subst (λ (s : Span). recorded.AreRecordedIn s pair (placed.placed_in (said.datagrams_until s.until intake.acts)) (placed.placed_in (spans_spec.heard_in s pair intake.acts)) one) span is.are_recorded in
    let made : ℕ → ℕ → Recorded = λ numbers recorded. record { numbers = numbers; recorded = recorded } in
    ap₂ made (same.numbers ∙ sym also.are_recorded.numbers) (same.recorded ∙ sym also.are_recorded.recorded)

-- what arrived, of a pair that is held or not
abbrev arrives_as : Option other_side.OtherRecording → Pair → intake.Intake → Span → Option ArrivedNumbers → Type 0
arrives_as theirs pair intake s found =
    MatchOption found (other_side.is_held intake.acts theirs pair ≡ false)
    (λ numbers. (other_side.is_held intake.acts theirs pair ≡ true)
    × recorded.IsArrivedAmong (other_side.is_there intake.acts theirs pair) s.from (recorded.greatest_sent pair.writer (placed.placed_in (said.datagrams_until s.until intake.acts)) + 1) numbers)

same_numbers : (theirs : Option other_side.OtherRecording) (pair : Pair) (intake : intake.Intake) (s : Span) (one other : Option ArrivedNumbers) → arrives_as theirs pair intake s one
    → arrives_as theirs pair intake s other → one ≡ other
same_numbers theirs pair intake s None None is also = refl
same_numbers theirs pair intake s None (Some other) is also = absurd (false≢true (sym is ∙ also.0))
same_numbers theirs pair intake s (Some one) None is also = absurd (false≢true (sym also ∙ is.0))
same_numbers theirs pair intake s (Some one) (Some other) is also =
    let made : ℕ → FirstNumbers → ArrivedNumbers = λ arrived lacking. record { arrived = arrived; lacking = lacking } in
    ap Some (ap₂ made (is.1.arrived ∙ sym also.1.arrived) (is.1.lacking ∙ sym also.1.lacking))

one_arrived : HasOneMap → (spans : Bool) (from : ℕ) (theirs : Option other_side.OtherRecording) (pair : Pair) (intake : intake.Intake) (one other : Arrived)
    → recorded.IsArrivedBy spans from theirs pair intake one → recorded.IsArrivedBy spans from theirs pair intake other → one ≡ other
one_arrived unique spans from theirs pair intake one other is also =
    let span : is.span ≡ also.span = one_extent unique spans from pair intake is.span also.span is.is_extent also.is_extent in
    let moved : arrives_as theirs pair intake also.span one.numbers = subst (λ (s : Span). arrives_as theirs pair intake s one.numbers) span is.arrived in
    let made : Option Way → Option ArrivedNumbers → Arrived = λ way numbers. record { way = way; numbers = numbers } in
    ap₂ made (is.way ∙ sym also.way) (same_numbers theirs pair intake also.span one.numbers other.numbers moved also.arrived)

one_counted : HasOneMap → (asked : asked.AskedValue) (theirs : Option other_side.OtherRecording) (intake : intake.Intake) (entries : directory.Entries) (matches : List Match) (one other : List best_efforts.CountedValue)
    → talk.AreCounted asked theirs intake entries matches one → talk.AreCounted asked theirs intake entries matches other → one ≡ other
one_counted unique asked theirs intake entries [] [] [] is also = refl
one_counted unique asked theirs intake entries [] [] (next ∷ other) is also = absurd also
one_counted unique asked theirs intake entries [] (first ∷ one) other is also = absurd is
one_counted unique asked theirs intake entries (found ∷ matches) [] other is also = absurd is
one_counted unique asked theirs intake entries (found ∷ matches) (first ∷ one) [] is also = absurd also
one_counted unique asked theirs intake entries (found ∷ matches) (first ∷ one) (next ∷ other) is also =
    let made : List ℕ → Pair → Recorded → Arrived → best_efforts.CountedValue = λ topic pair recorded arrived. record { topic = topic; pair = pair; recorded = recorded; arrived = arrived } in
    let topic = is.0 ∙ sym also.0 in
    let pair = is.1.of_pair ∙ sym also.1.of_pair in
    let recorded = one_recorded unique true asked.from found.pair intake first.recorded next.recorded is.1.recorded also.1.recorded in
    let arrived = one_arrived unique true asked.from theirs found.pair intake first.arrived next.arrived is.1.arrived also.1.arrived in
    let same : first ≡ next = λ i. made (topic i) (pair i) (recorded i) (arrived i) in
    ap (λ front. front ∷ one) same ∙ ap (λ rest. next ∷ rest) (one_counted unique asked theirs intake entries matches one other is.2 also.2)

one_sums : (counted : List best_efforts.CountedValue) (one other : List best_efforts.BestEffortValue) → best_efforts.AreSumsOf counted one → best_efforts.AreSumsOf counted other → one ≡ other
one_sums counted one other is also =
    same_keys (λ (sum : best_efforts.BestEffortValue). sum.topic) (best_efforts.sum_of counted) one other is.each also.each
    (same_members (slice_cmp nat_cmp) nat_list_cmp_total exact_bytes (map (λ (sum : best_efforts.BestEffortValue). sum.topic) one) (map (λ (sum : best_efforts.BestEffortValue). sum.topic) other) is.in_order also.in_order
    (λ topic. (λ has. (also.topics topic).1 ((is.topics topic).0 has), λ has. (is.topics topic).1 ((also.topics topic).0 has))))

-- ---- who talks one way

namings_total : IsTotalOrder namings.naming_cmp
namings_total = then_total (on_total (λ naming. naming.source.0) nat_list_cmp_total) (on_total (λ naming. naming.dest.0) nat_list_cmp_total)

naming_of_parts : List ℕ × List ℕ → Naming
naming_of_parts parts = record { source = record { 0 = parts.0 }; dest = record { 0 = parts.1 } }

exact_namings : CmpEqualImpliesEq namings.naming_cmp
unfolding naming_of_parts
exact_namings a b h =
    ap naming_of_parts (exact_pairs (slice_cmp nat_cmp) (slice_cmp nat_cmp) exact_bytes exact_bytes (a.source.0, a.dest.0) (b.source.0, b.dest.0) h)

-- what is told of a naming
abbrev told : silence.Traffic → Naming → OneWay
told traffic naming = record { naming = naming; count = namings.named_in traffic.datagrams naming }

each_told : (traffic : silence.Traffic) (found : List OneWay) → one_ways.AreOneWayIn traffic found → All (λ one. one ≡ told traffic one.naming) found
each_told traffic found is =
    All-weaker (Contains found) (λ (one : OneWay). one ≡ told traffic one.naming)
    (λ one among. let made : ℕ → OneWay = λ count. record { naming = one.naming; count = count } in ap made ((is.each one).0 among).1) found (All-contains_itself found)

naming_moved : (traffic : silence.Traffic) (one other : List OneWay) → one_ways.AreOneWayIn traffic one → one_ways.AreOneWayIn traffic other → (naming : Naming) → Contains (map (λ (found : OneWay). found.naming) one) naming
    → Contains (map (λ (found : OneWay). found.naming) other) naming
naming_moved traffic one other is also naming has =
    let made = from_map (λ (found : OneWay). found.naming) one naming has in
    subst (Contains (map (λ (found : OneWay). found.naming) other)) made.2 (into_map (λ (found : OneWay). found.naming) other made.0 ((also.each made.0).1 ((is.each made.0).0 made.1)))

one_way_once : (traffic : silence.Traffic) (one other : List OneWay) → one_ways.AreOneWayIn traffic one → one_ways.AreOneWayIn traffic other → one ≡ other
one_way_once traffic one other is also =
    same_keys (λ (found : OneWay). found.naming) (told traffic) one other (each_told traffic one is) (each_told traffic other also)
    (same_members namings.naming_cmp namings_total exact_namings (map (λ (found : OneWay). found.naming) one) (map (λ (found : OneWay). found.naming) other) is.in_order also.in_order
    (λ naming. (naming_moved traffic one other is also naming, naming_moved traffic other one also is naming)))

-- ---- all of it

talk_once : HasOneMap → (asked : asked.AskedValue) (theirs : Option other_side.OtherRecording) (recording : List (List ℕ)) (times : times.TimesValue) (one other : talk.TalkValue)
    → talk.IsTalkOf asked theirs recording times one → talk.IsTalkOf asked theirs recording times other → laws.TellSame one other
talk_once unique asked theirs recording times one other is also =
    let traffic = talk.traffic_of recording in
    let intake = recorded_samples.intake_as Fragments.Read recording in
    let same : is.directory ≡ also.directory = unique traffic.announcing is.directory also.directory is.is_map also.is_map in
    let entries = also.directory.endpoints in
    let chosen = λ (of : directory.DirectoryValue). talk.choice_of asked recording of.endpoints in
    let unfit = λ (of : directory.DirectoryValue). talk.unfit_in (chosen of) traffic of.endpoints in
    let count = λ (of : directory.DirectoryValue). filter (talk.is_counted (chosen of) traffic (unfit of) of.endpoints) (matching.matches_among (directory.settled_in of.endpoints)) in
    let leave = λ (of : directory.DirectoryValue). map (talk.left_out_of of.endpoints) (filter (talk.is_left_out (chosen of) traffic (unfit of) of.endpoints) (matching.matches_among (directory.settled_in of.endpoints))) in
    let moved = subst (λ (of : directory.DirectoryValue). talk.AreCounted asked theirs intake of.endpoints (count of) is.best_effort.counted) same is.best_effort.are_counted in
    let counted : is.best_effort.counted ≡ also.best_effort.counted =
    one_counted unique asked theirs intake entries (count also.directory) is.best_effort.counted also.best_effort.counted moved also.best_effort.are_counted in
    let acts = talk.acts_of_matching intake recording times.of_datagrams in
    let lives = two_lives_once recording times.of_datagrams one.lives other.lives is.lives also.lives in
    let talking : one.talking ≡ other.talking =
    is.talking ∙ ap (λ (of : directory.DirectoryValue). filter (λ (one : unmatched.UnmatchedValue). talk.talks intake (unmatched.pair_of one)) (unfit of)) same ∙ sym also.talking in
    record {
      ends = λ guid. is.ends guid ∙ ap (λ (of : directory.DirectoryValue). ends.end_of (ends.recorded_in intake of.endpoints) guid) same ∙ sym (also.ends guid);
      node = λ guid. is.node guid ∙ ap (λ (of : directory.DirectoryValue). naming.node_of (ends.recorded_in intake of.endpoints) guid) same ∙ sym (also.node guid);
      nodes = λ prefix. is.nodes prefix ∙ ap (λ (of : directory.DirectoryValue). naming.nodes_of_participant (ends.recorded_in intake of.endpoints) prefix) same ∙ sym (also.nodes prefix);
      silence = λ pair. is.silence pair ∙ sym (also.silence pair);
      unmatched = is.unmatched ∙ ap (λ (of : directory.DirectoryValue). filter (λ (one : unmatched.UnmatchedValue). not (talk.talks intake (unmatched.pair_of one))) (unfit of)) same ∙ sym also.unmatched;
      talking = talking;
      left_out = is.left_out ∙ ap leave same ∙ sym also.left_out;
      one_way = one_way_once traffic one.one_way other.one_way is.one_way also.one_way;
      best_effort = one_sums also.best_effort.counted one.best_effort other.best_effort
          (subst (λ (those : List best_efforts.CountedValue). best_efforts.AreSumsOf those one.best_effort) counted is.best_effort.are_sums) also.best_effort.are_sums;
      best_effort_total = is.best_effort.is_total ∙ ap best_efforts.total_of counted ∙ sym also.best_effort.is_total;
      held = is.best_effort.are_held ∙ ap best_efforts.held_among counted ∙ sym also.best_effort.are_held;
      held_sums = one_sums (best_efforts.arrived_among also.best_effort.counted) one.held_sums other.held_sums
          (subst (λ (those : List best_efforts.CountedValue). best_efforts.AreSumsOf (best_efforts.arrived_among those) one.held_sums) counted is.best_effort.are_held_sums) also.best_effort.are_held_sums;
      held_total = is.best_effort.is_held_total ∙ ap (λ those. best_efforts.total_of (best_efforts.arrived_among those)) counted ∙ sym also.best_effort.is_held_total;
      ways = is.best_effort.are_ways ∙ ap ways.ways_of_counted counted ∙ sym also.best_effort.are_ways;
      participants = is.participants ∙ ap (λ (d : directory.DirectoryValue). map (participants.participant_told intake recording times) d.participants) same ∙ sym also.participants;
      not_told = not_told_once intake recording times.of_datagrams also.directory one.not_told other.not_told
          (subst (λ (d : directory.DirectoryValue). not_told.AreNotToldIn intake recording times.of_datagrams d one.not_told) same is.not_told) also.not_told;
      lives = lives;
      late = λ pair. is.late pair
          ∙ ap (λ (of : directory.DirectoryValue). talk.late_among acts one.lives (talk.judged_pairs (matching.matches_among (directory.settled_in of.endpoints)) one.talking) pair) same
          ∙ ap (λ (those : List TwoLives). talk.late_among acts those (talk.judged_pairs (matching.matches_among (directory.settled_in entries)) one.talking) pair) lives
          ∙ ap (λ (those : List unmatched.UnmatchedValue). talk.late_among acts other.lives (talk.judged_pairs (matching.matches_among (directory.settled_in entries)) those) pair) talking ∙ sym (also.late pair);
    }

pub one_talk : HasOneMap → (asked : asked.AskedValue) (theirs : Option other_side.OtherRecording) (recording : recording.RecordingValue) (one other : talk.TalkValue) → talk.IsTalkAs asked theirs recording one
    → talk.IsTalkAs asked theirs recording other → laws.TellSame one other
one_talk unique asked theirs recording one other is also =
    talk_once unique asked theirs recording.datagrams recording.times one other is also

-- what is told of who does not talk, by its parts
abbrev talk_of : (Guid → ends.EndValue) → (Guid → Option samples.NodeValue) → (GuidPrefix → List samples.NodeValue) → (Pair → Silence) → List unmatched.UnmatchedValue → List unmatched.UnmatchedValue → List talk.LeftOutValue → List OneWay → List best_efforts.BestEffortValue → best_efforts.BestEffortValue
    → List best_efforts.HeldValue → List best_efforts.BestEffortValue → best_efforts.BestEffortValue → Ways → List Participant → List not_told.NotToldValue → List TwoLives → (Pair → Option LateMatch) → talk.TalkValue
talk_of ends node nodes silence unmatched talking left_out one_way best_effort total held held_sums held_total ways participants not_told lives late =
    record {
      ends = ends;
      node = node;
      nodes = nodes;
      silence = silence;
      unmatched = unmatched;
      talking = talking;
      left_out = left_out;
      one_way = one_way;
      best_effort = best_effort;
      best_effort_total = total;
      held = held;
      held_sums = held_sums;
      held_total = held_total;
      ways = ways;
      participants = participants;
      not_told = not_told;
      lives = lives;
      late = late;
    }

-- what tells the same is the same
pub same_talk : (one other : talk.TalkValue) → laws.TellSame one other → one ≡ other
same_talk one other same =
    let ends : one.ends ≡ other.ends = fun_ext same.ends in
    let node : one.node ≡ other.node = fun_ext same.node in
    let nodes : one.nodes ≡ other.nodes = fun_ext same.nodes in
    let silence : one.silence ≡ other.silence = fun_ext same.silence in
    let late : one.late ≡ other.late = fun_ext same.late in
    λ i.
    talk_of (ends i) (node i) (nodes i) (silence i) (same.unmatched i) (same.talking i) (same.left_out i) (same.one_way i) (same.best_effort i) (same.best_effort_total i) (same.held i) (same.held_sums i)
    (same.held_total i) (same.ways i) (same.participants i) (same.not_told i) (same.lives i) (late i)
