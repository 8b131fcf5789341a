-- Who does not talk: what few acts announce is what all do, which pairs do not match, and which are counted.
use Rattle.std.proofs.Common.{◌≡◌, ◌≢◌, ◌∙◌, ℕ, ◌+◌, ◌<◌, Bool, true, false, ◌&&◌, ◌||◌, cond, List, [], ◌∷◌, ◌++◌, Option, Some, None, ap, ap₂, append-nil, arith, filter, filter_map, find, get_or, length, map, nat_lt, not, option_map, refl, subst, sym, take, unwrap_or}
use Rattle.std.specs.BTreeMap.{BTreeMap, get}
use Rattle.std.specs.BTreeSet.{BTreeSet}
use Rattle.std.specs.Cmp.{both_tied}
use Rattle.std.specs.Cmp.Lexicographic.{slice_cmp, texts_ties}
use Rattle.std.specs.List.{cons_option, list_any}
use Rattle.std.specs.Ordering.{is_eq, nat_cmp}
use Rattle.std.proofs.lemmas.Bool.{leb-false}
use Rattle.std.proofs.lemmas.List.{map-append, map_more, map_push}
use Rattle.std.proofs.lemmas.List.Elements.{filter_agree, filter_more}
use Rattle.std.proofs.lemmas.List.Folds.{list_any-append}
use Rattle.std.proofs.lemmas.List.{append_assoc}
use Rattle.rtps_ids.specs.declared.identity.EntityId.{EntityId}
use Rattle.rtps_ids.specs.declared.identity.Guid.{Guid}
use Rattle.rtps_ids.specs.declared.identity.GuidPrefix.{GuidPrefix}
use Rattle.rtps_receiver.specs.Speech as speech
use Rattle.rtps_receiver.specs.Values as values
use Rattle.rtps_discovery.specs.Directory as directory
use Rattle.rtps_discovery.specs.GuidOrder as guid_order
use Rattle.rtps_discovery.specs.Listings as listings
use Rattle.rtps_discovery.specs.Notice as notice_spec
use Rattle.rtps_discovery.specs.declared.matching.Match.{Match}
use Rattle.rtps_discovery.specs.declared.matching.Pair.{Pair}
use Rattle.rtps_discovery.proofs.Offered.{of_another_kind}
use Rattle.rtps_audit.specs.Intake as intake_spec
use Rattle.rtps_audit.specs.Placed as placed_spec
use Rattle.rtps_audit.specs.declared.placed.Placed.{Placed}
use Rattle.rtps_evidence.specs.Explanation as explanation
use Rattle.rtps_evidence.specs.Locations as locations
use Rattle.rtps_evidence.specs.OtherSide as other_side
use Rattle.rtps_evidence.specs.Spans as spans
use Rattle.rtps_evidence.specs.Times as times
use Rattle.rtps_evidence.specs.declared.location.Location.{Location}
use Rattle.rtps_fragments.specs.Announcements as announcements_spec
use Rattle.rtps_fragments.specs.Announcing as fragments_announcing
use Rattle.rtps_policies.specs.Announcing as policies_announcing
use Rattle.rtps_policies.specs.Namings as namings_spec
use Rattle.rtps_policies.specs.Silence as silence
use Rattle.rtps_policies.specs.Unmatched as unmatched_spec
use Rattle.rtps_policies.specs.declared.announced.Announced.{Announced}
use Rattle.rtps_policies.specs.declared.host.Host.{Host}
use Rattle.rtps_policies.specs.declared.naming.Naming.{Naming}
use Rattle.rtps_policies.specs.declared.naming.Namings.{Namings}
use Rattle.rtps_policies.specs.declared.unmatched.Unmatched.{Unmatched}
use Rattle.rtps_report.specs.Asked as asked
use Rattle.rtps_report.specs.BestEfforts as best_efforts
use Rattle.rtps_report.specs.Participants as participants
use Rattle.rtps_report.specs.Rows as rows
use Rattle.rtps_report.specs.Stays as stays
use Rattle.rtps_report.specs.Talk as talk
use Rattle.rtps_fragments.specs.declared.fragments.Fragments.{Fragments}
use Rattle.rtps_report.specs.declared.best_effort.Counted.{Counted}
use Rattle.rtps_report.specs.declared.participant.Participant.{Participant}
use Rattle.rtps_report.specs.declared.talk.LeftOut.{LeftOut}
use Rattle.rtps_report.specs.declared.talk.Talk.{Talk}
use Rattle.rtps_report.specs.declared.presence.Stay.{Stay}
use Rattle.rtps_report.proofs.AskedLemmas.{map_filter}

-- ---- an act that is no DATA of a built-in writer announces nothing

of_no_kind : (writer : EntityId) → fragments_announcing.is_built_in writer ≡ false → get_or writer.0 3 0 ≢ 194
of_no_kind writer other = λ is. let less = leb-false 192 (get_or writer.0 3 0) other in let kind : get_or writer.0 3 0 ≡ 194 = is in omega arith

nothing_of : (body : values.ActBodyValue) → announcements_spec.is_of_built_in body ≡ false → notice_spec.notice_in body ≡ None
nothing_of (values.ActBodyValue.Data value) other = ap (λ subject. notice_spec.notice_with subject (notice_spec.whole_payload value.payload)) (of_another_kind value.writer (of_no_kind value.writer other))
nothing_of (values.ActBodyValue.Heartbeat value) other = refl
nothing_of (values.ActBodyValue.AckNack value) other = refl
nothing_of (values.ActBodyValue.Gap value) other = refl
nothing_of (values.ActBodyValue.DataFrag value) other = refl
nothing_of (values.ActBodyValue.NackFrag value) other = refl

pub says_nothing : (act : values.ActValue) → announcements_spec.is_of_built_in act.body ≡ false → notice_spec.announcement_of act ≡ None
says_nothing act other = ap (option_map (λ notice. notice_spec.announced_by notice.0 notice.1)) (nothing_of act.body other)

no_policies : (act : values.ActValue) → announcements_spec.is_of_built_in act.body ≡ false → policies_announcing.policies_told act ≡ None
no_policies act other = rw (says_nothing act other) refl

no_host : (act : values.ActValue) → announcements_spec.is_of_built_in act.body ≡ false → policies_announcing.host_told act ≡ None
no_host act other = rw (says_nothing act other) refl

-- ---- so what is announced is announced by those few acts

pub told_alone : {X : Type 0} (told : values.ActValue → Option X) → ((act : values.ActValue) → announcements_spec.is_of_built_in act.body ≡ false → told act ≡ None) → (placed : List placed_spec.PlacedValue)
    → filter_map told (map (λ (p : placed_spec.PlacedValue). p.act) (filter announcements_spec.is_announcement placed)) ≡ filter_map told (map (λ (p : placed_spec.PlacedValue). p.act) placed)
told_alone told none [] = refl
told_alone told none (one ∷ placed) = by (announcements_spec.is_of_built_in one.act.body) refl (told_alone told none placed)
  where
    by : (is : Bool) → announcements_spec.is_of_built_in one.act.body ≡ is
        → filter_map told (map (λ (p : placed_spec.PlacedValue). p.act) (filter announcements_spec.is_announcement placed)) ≡ filter_map told (map (λ (p : placed_spec.PlacedValue). p.act) placed)
        → filter_map told (map (λ (p : placed_spec.PlacedValue). p.act) (cond is (one ∷ filter announcements_spec.is_announcement placed) (filter announcements_spec.is_announcement placed)))
        ≡ cons_option (told one.act) (filter_map told (map (λ (p : placed_spec.PlacedValue). p.act) placed))
    by true is rest = ap (cons_option (told one.act)) rest
    by false is rest = rest ∙ ap (λ o. cons_option o (filter_map told (map (λ (p : placed_spec.PlacedValue). p.act) placed))) (sym (none one.act is))

acts_at : (datagram : ℕ) (acts : List values.ActValue) → map (λ (p : placed_spec.PlacedValue). p.act) (placed_spec.placed_at datagram acts) ≡ acts
acts_at datagram [] = refl
acts_at datagram (act ∷ acts) = ap (λ rest. act ∷ rest) (acts_at datagram acts)

pub acts_behind : (before : ℕ) (datagrams : List (List values.ActValue)) → map (λ (p : placed_spec.PlacedValue). p.act) (placed_spec.placed_behind before datagrams) ≡ intake_spec.acts_together datagrams
acts_behind before [] = refl
acts_behind before (acts ∷ datagrams) =
    map-append (λ (p : placed_spec.PlacedValue). p.act) (placed_spec.placed_at (before + 1) acts) (placed_spec.placed_behind (before + 1) datagrams)
    ∙ ap₂ (λ (front rest : List values.ActValue). front ++ rest) (acts_at (before + 1) acts) (acts_behind (before + 1) datagrams)

pub announced_all : (datagrams : List (List values.ActValue)) (announced : Announced) → policies_announcing.IsAnnouncedBy (map (λ (p : placed_spec.PlacedValue). p.act) (announcements_spec.announcements_in datagrams)) announced
    → policies_announcing.IsAnnouncedBy (intake_spec.acts_together datagrams) announced
announced_all datagrams announced is = record {
  policies = λ guid. is.policies guid ∙ ap (policies_announcing.first_of guid) (told_alone policies_announcing.policies_told no_policies (placed_spec.placed_in datagrams) ∙ ap (filter_map policies_announcing.policies_told) (acts_behind 0 datagrams));
  hosts = λ guid. is.hosts guid ∙ ap (policies_announcing.first_of guid) (told_alone policies_announcing.host_told no_host (placed_spec.placed_in datagrams) ∙ ap (filter_map policies_announcing.host_told) (acts_behind 0 datagrams));
}

find_alone : (guid : Guid) (placed : List placed_spec.PlacedValue) → find (participants.announces guid) (filter announcements_spec.is_announcement placed) ≡ find (participants.announces guid) placed
find_alone guid [] = refl
find_alone guid (one ∷ placed) = by (announcements_spec.is_of_built_in one.act.body) refl (find_alone guid placed)
  where
    by : (is : Bool) → announcements_spec.is_of_built_in one.act.body ≡ is → find (participants.announces guid) (filter announcements_spec.is_announcement placed) ≡ find (participants.announces guid) placed
        → find (participants.announces guid) (cond is (one ∷ filter announcements_spec.is_announcement placed) (filter announcements_spec.is_announcement placed)) ≡ cond (participants.announces guid one) (Some one) (find (participants.announces guid) placed)
    by true is rest = ap (λ found. cond (participants.announces guid one) (Some one) found) rest
    by false is rest = rest ∙ ap (λ said. cond (participants.is_that guid (notice_spec.participant_in said)) (Some one) (find (participants.announces guid) placed)) (sym (says_nothing one.act is))

-- a participant is announced first where it is so by those acts
pub place_alone : (guid : Guid) (datagrams : List (List values.ActValue)) → participants.place_of guid (announcements_spec.announcements_in datagrams) ≡ participants.place_of guid (placed_spec.placed_in datagrams)
place_alone guid datagrams = ap (option_map locations.location_of) (find_alone guid (placed_spec.placed_in datagrams))

-- ---- what is kept says what acts do

pub hosts_are : (acts : List values.ActValue) (announced : Announced) → policies_announcing.IsAnnouncedBy acts announced → (prefix : GuidPrefix) → policies_announcing.hosts_in announced prefix ≡ policies_announcing.host_of acts prefix
hosts_are acts announced is prefix = ap (λ host. unwrap_or host policies_announcing.unknown_host) (is.hosts (policies_announcing.participant_of prefix))

pub silence_is : (traffic : silence.Traffic) (announced : Announced) (namings : Namings) → policies_announcing.IsAnnouncedBy traffic.announcing announced → namings_spec.AreNamingsOf traffic.datagrams namings → (pair : Pair)
    → silence.silence_by announced namings pair ≡ silence.silence_of traffic pair
silence_is traffic announced namings is are pair =
    let one = hosts_are traffic.announcing announced is pair.writer.prefix in
    let other = hosts_are traffic.announcing announced is pair.reader.prefix in
    let named = are (silence.towards_reader pair) in
    let answered = are (silence.reversed (silence.towards_reader pair)) in
    λ i. silence.first_reason (speech.is_prefix pair.writer.prefix pair.reader.prefix) (silence.two_domains (one i) (other i)) (silence.one_way_by (named i) (answered i) (one i) (other i))

-- ---- pairs that do not match

either : (one old : Bool) → cond one true old ≡ (old || one)
either true true = refl
either true false = refl
either false true = refl
either false false = refl

guid_alike : (one other : Guid) → placed_spec.is_guid one other ≡ is_eq (guid_order.guid_cmp one other)
guid_alike one other =
    both_tied _ _ (slice_cmp nat_cmp one.prefix.0 other.prefix.0) (slice_cmp nat_cmp one.entity.0 other.entity.0) (texts_ties one.prefix.0 other.prefix.0) (texts_ties one.entity.0 other.entity.0)

pub pair_alike : (one other : Pair) → talk.is_pair one other ≡ is_eq (listings.pair_cmp one other)
pair_alike one other =
    both_tied _ _ (guid_order.guid_cmp one.writer other.writer) (guid_order.guid_cmp one.reader other.reader) (guid_alike one.writer other.writer) (guid_alike one.reader other.reader)

pub unfit_more : (unmatched : List Unmatched) (i : ℕ) (one : Unmatched) (pair : Pair) (old new : Bool) → i < length unmatched → one ≡ get_or unmatched i one
    → new ≡ cond (is_eq (listings.pair_cmp (unmatched_spec.pair_of (unmatched_spec.unmatched_value one)) pair)) true old → old ≡ talk.is_unfit (map unmatched_spec.unmatched_value (take i unmatched)) pair
    → new ≡ talk.is_unfit (map unmatched_spec.unmatched_value (take (i + 1) unmatched)) pair
unfit_more unmatched i one pair old new within read added so_far =
    let test : unmatched_spec.UnmatchedValue → Bool = λ one. talk.is_pair (unmatched_spec.pair_of one) pair in
    let known = map unmatched_spec.unmatched_value (take i unmatched) in
    added ∙ ap (λ b. cond b true old) (sym (pair_alike (unmatched_spec.pair_of (unmatched_spec.unmatched_value one)) pair))
    ∙ either (test (unmatched_spec.unmatched_value one)) old
    ∙ ap₂ (λ a b. a || b) so_far (sym (alone (test (unmatched_spec.unmatched_value one))))
    ∙ sym (list_any-append test known (unmatched_spec.unmatched_value one ∷ []))
    ∙ ap (λ (last : Unmatched). list_any test (known ++ unmatched_spec.unmatched_value last ∷ [])) read
    ∙ ap (list_any test) (sym (map_more unmatched_spec.unmatched_value unmatched i one within))
  where
    alone : (test : Bool) → (test || false) ≡ test
    alone true = refl
    alone false = refl

-- ---- pairs of best effort

-- the same matches are counted by what is kept
pub counted_alike : (chosen : rows.Choice) (traffic : silence.Traffic) (unmatched : List unmatched_spec.UnmatchedValue) (entries : directory.Entries) (unfit : BTreeSet Pair) (namings : Namings)
    → talk.AreUnfit unmatched unfit → namings_spec.AreNamingsOf traffic.datagrams namings → (matches : List Match)
    → filter (talk.is_counted_of unfit namings chosen entries) matches ≡ filter (talk.is_counted chosen traffic unmatched entries) matches
counted_alike chosen traffic unmatched entries unfit namings are counts matches =
    filter_agree (talk.is_counted_of unfit namings chosen entries) (talk.is_counted chosen traffic unmatched entries)
    (λ (found : Match).
    let naming : Naming = record { source = found.pair.reader.prefix; dest = found.pair.writer.prefix } in
    let fit = are found.pair in
    let named = counts naming in
    λ i. not found.reliable && (not (fit i) && (chosen (explanation.topic_of (directory.settled_at entries found.pair.writer)) found.pair && nat_lt 0 (named i)))) matches

-- a match is counted by the topic that is looked up for it
pub counted_by_topic : (unfit : BTreeSet Pair) (namings : Namings) (chosen : rows.Choice) (found : Match) (topic own : List ℕ) (is : Bool) → topic ≡ own
    → is ≡ talk.is_counted_by unfit namings chosen topic found → talk.is_counted_by unfit namings chosen own found ≡ is
counted_by_topic unfit namings chosen found topic own is same by = ap (λ t. talk.is_counted_by unfit namings chosen t found) (sym same) ∙ sym by

-- the same matches are left out by what is kept
pub left_alike : (chosen : rows.Choice) (traffic : silence.Traffic) (unmatched : List unmatched_spec.UnmatchedValue) (entries : directory.Entries) (unfit : BTreeSet Pair) (namings : Namings)
    → talk.AreUnfit unmatched unfit → namings_spec.AreNamingsOf traffic.datagrams namings → (matches : List Match)
    → filter (talk.is_left_out_of unfit namings chosen entries) matches ≡ filter (talk.is_left_out chosen traffic unmatched entries) matches
left_alike chosen traffic unmatched entries unfit namings are counts matches =
    filter_agree (talk.is_left_out_of unfit namings chosen entries) (talk.is_left_out chosen traffic unmatched entries)
    (λ (found : Match).
    let naming : Naming = record { source = found.pair.reader.prefix; dest = found.pair.writer.prefix } in
    let fit = are found.pair in
    let named = counts naming in
    λ i. not (fit i) && (chosen (explanation.topic_of (directory.settled_at entries found.pair.writer)) found.pair && not (nat_lt 0 (named i)))) matches

-- a match is left out by the topic that is looked up for it
pub left_by_topic : (unfit : BTreeSet Pair) (namings : Namings) (chosen : rows.Choice) (found : Match) (topic own : List ℕ) (is : Bool) → topic ≡ own
    → is ≡ talk.is_left_out_by unfit namings chosen topic found → talk.is_left_out_by unfit namings chosen own found ≡ is
left_by_topic unfit namings chosen found topic own is same by = ap (λ t. talk.is_left_out_by unfit namings chosen t found) (sym same) ∙ sym by

-- what is told of a match that is left out
pub left_is : (entries : directory.Entries) (found : Match) (one : LeftOut) → one.topic.now ≡ explanation.topic_of (directory.settled_at entries found.pair.writer) → one.pair ≡ found.pair
    → talk.left_out_value one ≡ talk.left_out_of entries found
left_is entries found one topic pair = let made : List ℕ → Pair → talk.LeftOutValue = λ name of. record { topic = name; pair = of } in ap₂ made topic pair

-- a step of a loop over elements, of which those are made something of that pass a test
pub made_more : {X Y Z : Type 0} (value : Z → Y) (made : X → Y) (test : X → Bool) (xs : List X) (so_far items : List Z) (i : ℕ) (d : X) (one : Z)
    → i < length xs → test (get_or xs i d) ≡ true → items ≡ so_far ++ one ∷ [] → value one ≡ made (get_or xs i d)
    → map value so_far ≡ map made (filter test (take i xs)) → map value items ≡ map made (filter test (take (i + 1) xs))
made_more value made test xs so_far items i d one within passes is same are =
    let x = get_or xs i d in
    let more : filter test (take (i + 1) xs) ≡ filter test (take i xs) ++ x ∷ [] = filter_more test xs i d within ∙ ap (λ b. filter test (take i xs) ++ cond b (x ∷ []) []) passes in
    ap (map value) is ∙ map_push value so_far one ∙ ap₂ (λ front last. front ++ last ∷ []) are same ∙ sym (map_push made (filter test (take i xs)) x) ∙ ap (map made) (sym more)

pub made_skip : {X Y : Type 0} (made : X → Y) (test : X → Bool) (xs : List X) (values : List Y) (i : ℕ) (d : X)
    → i < length xs → test (get_or xs i d) ≡ false → values ≡ map made (filter test (take i xs)) → values ≡ map made (filter test (take (i + 1) xs))
made_skip made test xs values i d within fails are =
    let more : filter test (take (i + 1) xs) ≡ filter test (take i xs) =
    filter_more test xs i d within ∙ ap (λ b. filter test (take i xs) ++ cond b (get_or xs i d ∷ []) []) fails ∙ append-nil (filter test (take i xs)) in
    are ∙ ap (map made) (sym more)

-- a step of a loop that takes elements out of a list, and keeps those that pass a test
pub parted_more : {X Y : Type 0} (value : X → Y) (test : Y → Bool) (kept items rest : List X) (one : X) (all : List Y) (passes : Bool) → test (value one) ≡ passes
    → items ≡ kept ++ cond passes (one ∷ []) [] → map value kept ++ filter test (map value (one ∷ rest)) ≡ all → map value items ++ filter test (map value rest) ≡ all
parted_more value test kept items rest one all true passes is so_far =
    let behind = filter test (map value rest) in
    ap (λ xs. map value xs ++ behind) is ∙ ap (λ front. front ++ behind) (map_push value kept one) ∙ append_assoc (map value kept) (value one ∷ []) behind
    ∙ ap (λ b. map value kept ++ cond b (value one ∷ behind) behind) (sym passes) ∙ so_far
parted_more value test kept items rest one all false passes is so_far =
    let behind = filter test (map value rest) in
    ap (λ xs. map value xs ++ behind) (is ∙ append-nil kept) ∙ ap (λ b. map value kept ++ cond b (value one ∷ behind) behind) (sym passes) ∙ so_far

-- one more that is counted
counted_push : (asked : asked.AskedValue) (other : Option other_side.OtherRecording) (intake : intake_spec.Intake) (entries : directory.Entries) (matches : List Match) (counted : List best_efforts.CountedValue) (found : Match) (one : best_efforts.CountedValue)
    → talk.AreCounted asked other intake entries matches counted → one.topic ≡ explanation.topic_of (directory.settled_at entries found.pair.writer) → talk.IsPairCounted asked other intake found.pair one
    → talk.AreCounted asked other intake entries (matches ++ found ∷ []) (counted ++ one ∷ [])
counted_push asked theirs intake entries [] [] found one are topic recorded = (topic, recorded, tt)
counted_push asked theirs intake entries [] (other ∷ counted) found one are topic recorded = absurd are
counted_push asked theirs intake entries (first ∷ matches) [] found one are topic recorded = absurd are
counted_push asked theirs intake entries (first ∷ matches) (other ∷ counted) found one are topic recorded =
    (are.0, are.1, counted_push asked theirs intake entries matches counted found one are.2 topic recorded)

-- a step of the loop over matches, whose next one is counted or not
pub counted_more : (asked : asked.AskedValue) (other : Option other_side.OtherRecording) (intake : intake_spec.Intake) (entries : directory.Entries) (test : Match → Bool) (matches : List Match) (counted items : List Counted) (i : ℕ) (d : Match) (one : Counted)
    → i < length matches → test (get_or matches i d) ≡ true → items ≡ counted ++ one ∷ []
    → one.topic.now ≡ explanation.topic_of (directory.settled_at entries (get_or matches i d).pair.writer) → talk.IsPairCounted asked other intake (get_or matches i d).pair (best_efforts.counted_value one)
    → talk.AreCounted asked other intake entries (filter test (take i matches)) (map best_efforts.counted_value counted) → talk.AreCounted asked other intake entries (filter test (take (i + 1) matches)) (map best_efforts.counted_value items)
counted_more asked other intake entries test matches counted items i d one within passes is topic recorded are =
    let found = get_or matches i d in
    let more : filter test (take (i + 1) matches) ≡ filter test (take i matches) ++ found ∷ [] =
    filter_more test matches i d within ∙ ap (λ b. filter test (take i matches) ++ cond b (found ∷ []) []) passes in
    let values : map best_efforts.counted_value items ≡ map best_efforts.counted_value counted ++ best_efforts.counted_value one ∷ [] = ap (map best_efforts.counted_value) is ∙ map_push best_efforts.counted_value counted one in
    subst (λ xs. talk.AreCounted asked other intake entries xs (map best_efforts.counted_value items)) (sym more)
    (subst (talk.AreCounted asked other intake entries (filter test (take i matches) ++ found ∷ [])) (sym values)
    (counted_push asked other intake entries (filter test (take i matches)) (map best_efforts.counted_value counted) found (best_efforts.counted_value one) are topic recorded))

pub counted_skip : (asked : asked.AskedValue) (other : Option other_side.OtherRecording) (intake : intake_spec.Intake) (entries : directory.Entries) (test : Match → Bool) (matches : List Match) (counted : List best_efforts.CountedValue) (i : ℕ) (d : Match)
    → i < length matches → test (get_or matches i d) ≡ false
    → talk.AreCounted asked other intake entries (filter test (take i matches)) counted → talk.AreCounted asked other intake entries (filter test (take (i + 1) matches)) counted
counted_skip asked other intake entries test matches counted i d within fails are =
    let more : filter test (take (i + 1) matches) ≡ filter test (take i matches) =
    filter_more test matches i d within ∙ ap (λ b. filter test (take i matches) ++ cond b (get_or matches i d ∷ []) []) fails ∙ append-nil (filter test (take i matches)) in
    subst (λ xs. talk.AreCounted asked other intake entries xs counted) (sym more) are

-- ---- participants

abbrev pub participant_of_parts : Guid → Host → Option Stay → Option ℕ → Bool → Participant
participant_of_parts guid host stay left silent = record { guid = guid; host = host; stay = stay; left = left; silent = silent }

-- participants are announced first where few acts announce them
pub joined_then : (intake : intake_spec.Intake) (announcements : List Placed) (joined : BTreeMap Guid Location) → participants.AreJoined (map placed_spec.placed_value announcements) joined
    → map placed_spec.placed_value announcements ≡ announcements_spec.announcements_in intake.announcing → participants.AreJoined (placed_spec.placed_in intake.announcing) joined
joined_then intake announcements joined are same = λ guid. are guid ∙ ap (participants.place_of guid) same ∙ place_alone guid intake.announcing

-- a participant leaves when it does by where it is announced first
pub leaves_then : (intake : intake_spec.Intake) (joined : BTreeMap Guid Location) (guid : Guid) (place : Option Location) (left : Option ℕ)
    → participants.AreJoined (placed_spec.placed_in intake.announcing) joined → place ≡ get guid_order.guid_cmp joined guid
    → left ≡ spans.left_in place guid (placed_spec.placed_in intake.acts) → left ≡ participants.left_of intake guid
leaves_then intake joined guid place left are p l =
    let first : place ≡ participants.place_of guid (placed_spec.placed_in intake.announcing) = p ∙ are guid in
    l ∙ ap (λ (place : Option Location). spans.left_in place guid (placed_spec.placed_in intake.acts)) first

-- what is told of a participant, by what is known of it
pub participant_is : (intake : intake_spec.Intake) (recording : List (List ℕ)) (times : times.TimesValue) (guid : Guid) (host : Host) (stay : Option Stay) (left latest end : Option ℕ)
    (silent : Bool) → host ≡ participants.host_known intake guid → stay ≡ stays.stay_of recording guid.prefix → left ≡ participants.left_of intake guid
    → latest ≡ stays.latest_of recording times.of_datagrams guid.prefix → end ≡ times.end → silent ≡ participants.is_silent host.lease left latest end
    → participant_of_parts guid host stay left silent ≡ participants.participant_told intake recording times guid
participant_is intake recording times guid host stay left latest end silent h s l t e q =
    let quiet : silent ≡ participants.is_silent (participants.host_known intake guid).lease (participants.left_of intake guid) (stays.latest_of recording times.of_datagrams guid.prefix) times.end =
    q ∙ (λ i. participants.is_silent (h i).lease (l i) (t i) (e i)) in
    λ i. participant_of_parts guid (h i) (s i) (l i) (quiet i)

pub participants_more : (told : Guid → Participant) (guids : List Guid) (participants items : List Participant) (i : ℕ) (d : Guid) (one : Participant)
    → i < length guids → items ≡ participants ++ one ∷ [] → one ≡ told (get_or guids i d) → participants ≡ map told (take i guids) → items ≡ map told (take (i + 1) guids)
participants_more told guids participants items i d one within is same so_far =
    is ∙ ap₂ (λ (front : List Participant) (last : Participant). front ++ last ∷ []) so_far same ∙ sym (map_more told guids i d within)

-- ---- announcements, one after another

pub announced_more : (announcements : List Placed) (i : ℕ) (one : Placed) (announced : Announced) → i < length announcements → one ≡ get_or announcements i one
    → policies_announcing.IsAnnouncedBy (map (λ (p : placed_spec.PlacedValue). p.act) (map placed_spec.placed_value (take i announcements)) ++ values.spoken_value one.act ∷ []) announced
    → policies_announcing.IsAnnouncedBy (map (λ (p : placed_spec.PlacedValue). p.act) (map placed_spec.placed_value (take (i + 1) announcements))) announced
announced_more announcements i one announced within read is =
    let so_far = map placed_spec.placed_value (take i announcements) in
    let more : map (λ (p : placed_spec.PlacedValue). p.act) (map placed_spec.placed_value (take (i + 1) announcements)) ≡ map (λ (p : placed_spec.PlacedValue). p.act) so_far ++ values.spoken_value one.act ∷ [] =
    ap (map (λ (p : placed_spec.PlacedValue). p.act)) (map_more placed_spec.placed_value announcements i one within ∙ ap (λ (last : Placed). so_far ++ placed_spec.placed_value last ∷ []) (sym read))
    ∙ map_push (λ (p : placed_spec.PlacedValue). p.act) so_far (placed_spec.placed_value one) in
    subst (λ acts. policies_announcing.IsAnnouncedBy acts announced) (sym more) is

-- what few acts announce, which are those of a recording, is what all of its acts do
pub heard_announced : (intake : intake_spec.Intake) (announcements : List Placed) (announced : Announced) → map placed_spec.placed_value announcements ≡ announcements_spec.announcements_in intake.announcing
    → policies_announcing.IsAnnouncedBy (map (λ (p : placed_spec.PlacedValue). p.act) (map placed_spec.placed_value announcements)) announced → policies_announcing.IsAnnouncedBy (intake_spec.acts_together intake.announcing) announced
heard_announced intake announcements announced same is =
    announced_all intake.announcing announced (subst (λ placed. policies_announcing.IsAnnouncedBy (map (λ (p : placed_spec.PlacedValue). p.act) placed) announced) same is)

-- ---- all of it

pub kept_unmatched : (chosen : rows.Choice) (found kept : List Unmatched) (all : List unmatched_spec.UnmatchedValue) → kept ≡ filter (λ (one : Unmatched). talk.is_asked chosen (unmatched_spec.unmatched_value one)) found
    → map unmatched_spec.unmatched_value found ≡ all → map unmatched_spec.unmatched_value kept ≡ filter (talk.is_asked chosen) all
kept_unmatched chosen found kept all is same =
    ap (map unmatched_spec.unmatched_value) is ∙ map_filter unmatched_spec.unmatched_value (talk.is_asked chosen) found ∙ ap (filter (talk.is_asked chosen)) same
