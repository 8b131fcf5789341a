use Rattle.std.proofs.Common.{Bor, ◌≡◌, ◌∙◌, ℕ, List, ap, filter, map, not, subst}
use Rattle.rtps_fragments.specs.RecordedSamples as recorded_samples
use Rattle.rtps_fragments.specs.declared.fragments.Fragments.{Fragments}
use Rattle.rtps_policies.specs.Unmatched as unmatched
use Rattle.rtps_policies.specs.declared.unmatched.Unmatched.{Unmatched}
use Rattle.rtps_discovery.specs.declared.matching.Match.{Match}
use Rattle.rtps_discovery.specs.declared.matching.Pair.{Pair}
use Rattle.rtps_report.specs.declared.two_lives.TwoLives.{TwoLives}
use Rattle.rtps_report.specs.Asked as asked
use Rattle.rtps_report.specs.BestEfforts as best_efforts
use Rattle.rtps_report.specs.Talk as talk_spec
use Rattle.rtps_report.specs.Ways as ways
use Rattle.rtps_report.specs.declared.best_effort.Counted.{Counted}
use Rattle.rtps_report.specs.declared.talk.Talk.{Talk}
use Rattle.rtps_discovery.specs.Directory as directory
use Rattle.rtps_discovery.specs.Matching as matching
use Rattle.rtps_who.specs.Recorded as recorded
use Rattle.rtps_who.proofs.Offered.{node_is}
use Rattle.rtps_report.specs.Ends as ends
use Rattle.rtps_report.specs.Rows as rows
use Rattle.rtps_report.proofs.EndLemmas.{choice_kept}
use Rattle.rtps_report.proofs.TalkLemmas.{heard_announced}
use Rattle.rtps_report.proofs.TalkParts.{kept_is, talk_is}
use Rattle.rtps_report.proofs.talk.talk_in.Goals as goal

pub returns-clause-talks : goal.returns-clause-talks
returns-clause-talks c = λ other is.
    let read = c.args.read.now in
    let asked = asked.asked_value read.asked.now in
    let recording = map (λ (datagram : Bor (List ℕ)). datagram.now) read.datagrams.now in
    let intake = recorded_samples.intake_as Fragments.Read recording in
    let traffic = talk_spec.traffic_of recording in
    let entries = read.directory.now.endpoints in
    let unfit = c.in_ok-unfit.unfit.items in
    let announced = heard_announced intake read.announcements.now c.in_ok-announced.announced is.announcements c.in_ok-announced.ensures in
    let who = c.in_ok-who.ensures intake is.index is.announcements in
    let choice = choice_kept asked intake entries c.in_ok-who.who (node_is (ends.recorded_in intake entries) c.in_ok-who.who who) in
    let same = c.in_ok-unfit.ensures traffic announced ∙ ap (λ (chosen : rows.Choice). talk_spec.unfit_in chosen traffic entries) choice in
    let parted = c.in_ok-parted.ensures intake is.index in
    let counted = map best_efforts.counted_value c.in_ok-counted.counted.items in
    let arrived : map best_efforts.counted_value c.in_ok-arrived.arrived.items ≡ best_efforts.arrived_among counted =
    c.in_ok-arrived.ensures ∙ ap (λ (items : List Counted). best_efforts.arrived_among (map best_efforts.counted_value items)) c.deref-11.ensures.value in
    let talk : Talk = record {
      announced = c.in_ok-announced.announced;
      who = c.in_ok-who.who;
      namings = c.args.acquaintance.namings;
      unfit = c.in_ok-unfit_of.field-0;
      unmatched = c.in_ok-parted.parted.silent;
      talking = c.in_ok-parted.parted.talking;
      left_out = c.in_ok-talk-2.field-0;
      one_way = c.in_ok-one_way_namings.field-0;
      best_effort = c.in_ok-talk-5.field-0;
      best_effort_total = c.total_of-talk.result;
      held = c.in_ok-talk-3.field-0;
      held_sums = c.in_ok-talk-4.field-0;
      held_total = c.total_of-talk-2.result;
      ways = c.ways_of_counted-talk.result;
      participants = c.in_ok-participants.field-0.participants;
      not_told = c.in_ok-participants.field-0.not_told;
      lives = c.in_ok-participants.field-0.lives;
      late = c.in_ok-talk.field-0;
    } in
    let lives = c.in_ok-participants.field-0.lives.items in
    let acts = talk_spec.acts_of_matching intake recording read.times.now.of_datagrams in
    let judged : c.deref-5.result.now ≡ talk_spec.judged_pairs (matching.matches_among (directory.settled_in entries)) (map unmatched.unmatched_value talk.talking.items) =
    c.deref-5.ensures.value ∙ c.in_ok-judged.ensures
    ∙ ap (λ (matched : List Match). talk_spec.judged_pairs matched (map unmatched.unmatched_value c.deref-3.result.now)) (c.deref-2.ensures.value ∙ c.in_ok-matched.ensures)
    ∙ ap (λ (items : List Unmatched). talk_spec.judged_pairs (matching.matches_among (directory.settled_in entries)) (map unmatched.unmatched_value items)) c.deref-3.ensures.value in
    let kept : talk_spec.IsKeptOf asked intake traffic entries talk =
    kept_is asked intake traffic entries talk (map unmatched.unmatched_value unfit) same
    (subst (λ (items : List Unmatched). talk_spec.AreUnfit (map unmatched.unmatched_value items) c.in_ok-unfit_of.field-0) c.deref.ensures.value c.in_ok-unfit_of.ensures) c.requires.namings parted.1 who in
    talk_is asked other recording read.times.now read.directory.now talk counted is.directory announced who kept
    (parted.0 ∙ ap (filter (λ (one : unmatched.UnmatchedValue). not (talk_spec.talks intake (unmatched.pair_of one)))) same)
    (c.in_ok-talk-2.ensures ∙ ap (λ (those : List Match). map (talk_spec.left_out_of entries) (filter (talk_spec.is_left_out_of talk.unfit talk.namings (rows.chosen_by asked (recorded.node_in talk.who)) entries) those)) (c.deref-6.ensures.value ∙ c.in_ok-matched.ensures)
    ∙ ap (λ (chosen : rows.Choice). map (talk_spec.left_out_of entries) (filter (talk_spec.is_left_out_of talk.unfit talk.namings chosen entries) (matching.matches_among (directory.settled_in entries)))) choice)
    (c.in_ok-one_way_namings.ensures traffic announced c.requires.namings)
    (subst (λ (chosen : rows.Choice). talk_spec.AreCounted asked other intake entries (filter (talk_spec.is_counted_of talk.unfit talk.namings chosen entries) (matching.matches_among (directory.settled_in entries))) counted) choice
    (subst (λ (those : List Match). talk_spec.AreCounted asked other intake entries (filter (talk_spec.is_counted_of talk.unfit talk.namings (rows.chosen_by asked (recorded.node_in talk.who)) entries) those) counted) (c.deref-7.ensures.value ∙ c.in_ok-matched.ensures)
    (c.in_ok-counted.ensures intake other is.index is.beside)))
    c.in_ok-talk-5.ensures
    (c.total_of-talk.ensures ∙ ap (λ (items : List Counted). best_efforts.total_of (map best_efforts.counted_value items)) c.deref-8.ensures.value)
    (c.in_ok-talk-3.ensures ∙ ap (λ (items : List Counted). best_efforts.held_among (map best_efforts.counted_value items)) c.deref-10.ensures.value)
    (subst (λ (counted : List best_efforts.CountedValue). best_efforts.AreSumsOf counted (map best_efforts.best_effort_value c.in_ok-talk-4.field-0.items)) arrived c.in_ok-talk-4.ensures)
    (c.total_of-talk-2.ensures ∙ ap (λ (items : List Counted). best_efforts.total_of (map best_efforts.counted_value items)) c.deref-12.ensures.value ∙ ap best_efforts.total_of arrived)
    (c.ways_of_counted-talk.ensures ∙ ap (λ (items : List Counted). ways.ways_of_counted (map best_efforts.counted_value items)) c.deref-9.ensures.value)
    (c.in_ok-participants.ensures.participants intake is.index is.announcements announced) (c.in_ok-participants.ensures.not_told intake is.index is.announcements announced)
    c.in_ok-participants.ensures.lives
    (λ pair. c.in_ok-talk.ensures acts c.requires.matches pair
    ∙ ap (λ (those : List TwoLives). talk_spec.late_among acts those c.deref-5.result.now pair) c.deref-4.ensures.value
    ∙ ap (λ (pairs : List Pair). talk_spec.late_among acts lives pairs pair) judged)

pub returns-clause-kept : goal.returns-clause-kept
returns-clause-kept c = λ other is.
    let read = c.args.read.now in
    let asked = asked.asked_value read.asked.now in
    let recording = map (λ (datagram : Bor (List ℕ)). datagram.now) read.datagrams.now in
    let intake = recorded_samples.intake_as Fragments.Read recording in
    let traffic = talk_spec.traffic_of recording in
    let entries = read.directory.now.endpoints in
    let announced = heard_announced intake read.announcements.now c.in_ok-announced.announced is.announcements c.in_ok-announced.ensures in
    let who = c.in_ok-who.ensures intake is.index is.announcements in
    let choice = choice_kept asked intake entries c.in_ok-who.who (node_is (ends.recorded_in intake entries) c.in_ok-who.who who) in
    kept_is asked intake traffic entries _ (map unmatched.unmatched_value c.in_ok-unfit.unfit.items)
    (c.in_ok-unfit.ensures traffic announced ∙ ap (λ (chosen : rows.Choice). talk_spec.unfit_in chosen traffic entries) choice)
    (subst (λ (items : List Unmatched). talk_spec.AreUnfit (map unmatched.unmatched_value items) c.in_ok-unfit_of.field-0) c.deref.ensures.value c.in_ok-unfit_of.ensures) c.requires.namings
    (c.in_ok-parted.ensures intake is.index).1 who
