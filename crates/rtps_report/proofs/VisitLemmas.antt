-- When participants are there, with one participant more.
use Rattle.std.proofs.Common.{◌≡◌, ◌∙◌, ℕ, ◌+◌, ◌<◌, Bool, true, false, ◌||◌, cond, List, Option, Some, None, ap, arith, get_or, length, map, refl, subst, sym, take}
use Rattle.std.specs.BTreeMap.{BTreeMap, get}
use Rattle.std.specs.Cmp.Lexicographic.{slice_cmp, texts_ties}
use Rattle.std.specs.List.{list_any}
use Rattle.std.specs.Ordering.{is_eq, nat_cmp}
use Rattle.std.proofs.lemmas.List.{get_or-map, length-map}
use Rattle.std.proofs.lemmas.List.Folds.{list_any_more}
use Rattle.std.proofs.lemmas.Map.Lookups.{CmpEqualImpliesEq, exact_bytes, exact_pairs}
use Rattle.std.proofs.lemmas.Map.Views.{tells_apart}
use Rattle.rtps_ids.specs.declared.identity.Guid.{Guid}
use Rattle.rtps_ids.specs.declared.identity.GuidPrefix.{GuidPrefix}
use Rattle.rtps_receiver.specs.Speech as speech
use Rattle.rtps_discovery.specs.GuidOrder as guid_order
use Rattle.rtps_audit.specs.Intake as intake
use Rattle.rtps_audit.specs.Placed as placed
use Rattle.rtps_audit.proofs.Offered.{is_eq-guid_cmp}
use Rattle.rtps_evidence.specs.Times as times
use Rattle.rtps_evidence.specs.declared.location.Location.{Location}
use Rattle.rtps_known.specs.declared.visit.Visit.{Visit}
use Rattle.rtps_policies.specs.Announcing as announcing
use Rattle.rtps_report.specs.Participants as participants_spec
use Rattle.rtps_report.specs.Stays as stays
use Rattle.rtps_report.specs.Visits as visits
use Rattle.rtps_report.specs.declared.participant.Participant.{Participant}

guid_of_parts : List ℕ × List ℕ → Guid
guid_of_parts parts = record { prefix = record { 0 = parts.0 }; entity = record { 0 = parts.1 } }

exact_guids : CmpEqualImpliesEq guid_order.guid_cmp
unfolding guid_of_parts
exact_guids a b h =
    ap guid_of_parts (exact_pairs (slice_cmp nat_cmp) (slice_cmp nat_cmp) exact_bytes exact_bytes (a.prefix.0, a.entity.0) (b.prefix.0, b.entity.0) h)

same_guid : (one other : Guid) → placed.is_guid one other ≡ true → one ≡ other
same_guid one other e = tells_apart exact_guids one other (is_eq-guid_cmp one other ∙ e)

-- a visit that is kept, or not
visited : (b any : Bool) (visit : Option Visit) → visits.visit_with b visit (cond any visit None) ≡ cond (any || b) visit None
visited true true None = refl
visited true true (Some visit) = refl
visited true false None = refl
visited true false (Some visit) = refl
visited false true visit = refl
visited false false visit = refl

-- when one is there that is told so
abbrev pub visit_told : List (List ℕ) → List (Option ℕ) → BTreeMap Guid Location → Guid → Option ℕ → Option Visit
visit_told recording times joined guid left = visits.visit_by (visits.place_time times (get guid_order.guid_cmp joined guid)) (visits.left_time times left) (stays.latest_of recording times guid.prefix)

-- the visits of those that are announced, with one more
pub visits_more : (intake : intake.Intake) (recording : List (List ℕ)) (times : times.TimesValue) (joined : BTreeMap Guid Location) (announced : List Guid) (participants : List Participant) (i : ℕ)
    (d : Participant) (prefix : GuidPrefix) (old new : Option Visit) → participants_spec.AreJoined (placed.placed_in intake.announcing) joined → participants ≡ map (participants_spec.participant_told intake recording times) announced
    → i < length participants
    → new ≡ visits.visit_with (visits.is_participant prefix (get_or participants i d).guid) (visit_told recording times.of_datagrams joined (get_or participants i d).guid (get_or participants i d).left) old
    → old ≡ visits.visit_of intake recording times.of_datagrams (take i announced) prefix → new ≡ visits.visit_of intake recording times.of_datagrams (take (i + 1) announced) prefix
visits_more intake recording times joined announced participants i d prefix old new are told within added so_far =
    added ∙ ap (λ (one : Participant). visits.visit_with (visits.is_participant prefix one.guid) (visit_told recording times.of_datagrams joined one.guid one.left) old) here
    ∙ ap (visits.visit_with (visits.is_participant prefix guid) (visit_told recording times.of_datagrams joined guid (participants_spec.participant_told intake recording times guid).left)) so_far
    ∙ by (visits.is_participant prefix guid) refl
    ∙ ap (λ (any : Bool). cond any (visits.visit_in intake recording times.of_datagrams prefix) None) (sym (list_any_more (placed.is_guid (announcing.participant_of prefix)) announced i d.guid among))
  where
    guid : Guid
    guid = get_or announced i d.guid

    among : i < length announced
    among =
        let size : length participants ≡ length announced = ap length told ∙ length-map announced (participants_spec.participant_told intake recording times) in
        omega (arith, within, size)

    here : get_or participants i d ≡ participants_spec.participant_told intake recording times guid
    here =
        ap (λ (those : List Participant). get_or those i d) told
        ∙ get_or-map (participants_spec.participant_told intake recording times) announced i d.guid d among

    any : Bool
    any = list_any (placed.is_guid (announcing.participant_of prefix)) (take i announced)

    by : (b : Bool) → visits.is_participant prefix guid ≡ b
        → visits.visit_with b (visit_told recording times.of_datagrams joined guid (participants_spec.participant_told intake recording times guid).left) (cond any (visits.visit_in intake recording times.of_datagrams prefix) None)
        ≡ cond (any || b) (visits.visit_in intake recording times.of_datagrams prefix) None
    by true e =
        let same : announcing.participant_of prefix ≡ guid = same_guid (announcing.participant_of prefix) guid e in
        ap (λ (visit : Option Visit). visits.visit_with true visit (cond any (visits.visit_in intake recording times.of_datagrams prefix) None))
        (ap (λ (one : Guid). visit_told recording times.of_datagrams joined one (participants_spec.participant_told intake recording times one).left) (sym same)
        ∙ ap (λ (place : Option Location). visits.visit_by (visits.place_time times.of_datagrams place) (visits.left_time times.of_datagrams (participants_spec.participant_told intake recording times (announcing.participant_of prefix)).left)
        (stays.latest_of recording times.of_datagrams prefix)) (are (announcing.participant_of prefix)))
        ∙ visited true any (visits.visit_in intake recording times.of_datagrams prefix)
    by false e = visited false any (visits.visit_in intake recording times.of_datagrams prefix)

-- ---- one visit

-- a visit is written under the prefix of a participant
pub visit_written : (prefix other : GuidPrefix) (visit : Visit) (kept : Option Visit)
    → cond (is_eq (stays.prefix_cmp prefix other)) (Some visit) kept ≡ visits.visit_with (speech.is_prefix prefix other) (Some visit) kept
visit_written prefix other visit kept = by (is_eq (stays.prefix_cmp prefix other)) ∙ ap (λ (b : Bool). visits.visit_with b (Some visit) kept) (sym (texts_ties prefix.0 other.0))
  where
    by : (b : Bool) → cond b (Some visit) kept ≡ visits.visit_with b (Some visit) kept
    by true = refl
    by false = refl
