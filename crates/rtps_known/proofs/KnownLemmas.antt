-- One act more of a recording.
use Rattle.std.proofs.Common.{◌≡◌, ◌∙◌, Bool, true, false, ◌||◌, ◌&&◌, List, [], ◌∷◌, ◌++◌, MatchOption, Option, Some, None, ap, append-nil, cond, refl, subst, sym}
use Rattle.std.specs.BTreeMap.{BTreeMap, get, is_at}
use Rattle.std.specs.BTreeSet.{BTreeSet, contains}
use Rattle.std.specs.Cmp.{both_tied}
use Rattle.std.specs.Cmp.Lexicographic.{slice_cmp, texts_ties}
use Rattle.std.specs.Ordering.{is_eq, nat_cmp}
use Rattle.std.specs.List.{list_any}
use Rattle.std.proofs.lemmas.Bool.{false≢true}
use Rattle.std.proofs.lemmas.List.Elements.{filter-append}
use Rattle.std.proofs.lemmas.Map.Views.{tells_apart}
use Rattle.rtps_ids.specs.declared.identity.Guid.{Guid}
use Rattle.rtps_ids.specs.declared.identity.GuidPrefix.{GuidPrefix}
use Rattle.rtps_receiver.specs.Speech as speech
use Rattle.rtps_discovery.specs.GuidOrder as guid_order
use Rattle.rtps_policies.specs.Namings as namings
use Rattle.rtps_policies.specs.Silence as silence
use Rattle.rtps_policies.specs.declared.naming.Naming.{Naming}
use Rattle.rtps_known.specs.Bulletins as bulletins
use Rattle.rtps_known.specs.Meetings as meetings
use Rattle.rtps_known.specs.Recorded as recorded
use Rattle.rtps_known.specs.Tellings as tellings
use Rattle.rtps_known.specs.declared.bulletin.Bulletin.{Bulletin}
use Rattle.rtps_known.proofs.BulletinLemmas.{one_more}
use Rattle.rtps_known.proofs.BoolLemmas.{and_none, or_join, or_none}
use Rattle.rtps_known.proofs.OrderLemmas.{exact_guids, one_prefix}

-- ---- who names whom

alike : (one other : Naming) → is_eq (namings.naming_cmp one other) ≡ (speech.is_prefix one.source other.source && speech.is_prefix one.dest other.dest)
alike one other = sym (both_tied _ _ (slice_cmp nat_cmp one.source.0 other.source.0) (slice_cmp nat_cmp one.dest.0 other.dest.0) (texts_ties one.source.0 other.source.0) (texts_ties one.dest.0 other.dest.0))

and_swap : (a b : Bool) → (a && b) ≡ (b && a)
and_swap true true = refl
and_swap true false = refl
and_swap false true = refl
and_swap false false = refl

or_swap : (a b : Bool) → (a || b) ≡ (b || a)
or_swap true true = refl
or_swap true false = refl
or_swap false true = refl
or_swap false false = refl

always : (b : Bool) → cond b true true ≡ true
always true = refl
always false = refl

both_hold : (a b : Bool) → (a && b) ≡ true → (a ≡ true) × (b ≡ true)
both_hold true b e = (refl, e)
both_hold false b e = absurd (false≢true e)

-- namings that compare alike are one
one_naming : (one other : Naming) → is_eq (namings.naming_cmp one other) ≡ true → one ≡ other
one_naming one other e =
    let (from, to) = both_hold (speech.is_prefix one.source other.source) (speech.is_prefix one.dest other.dest) (sym (alike one other) ∙ e) in
    let source : one.source ≡ other.source = one_prefix one.source other.source from in
    let dest : one.dest ≡ other.dest = one_prefix one.dest other.dest to in
    λ i. record { source = source i; dest = dest i }

-- an act without a destination joins none
pub joins_none : (acts : List tellings.TimedAct) (timed : tellings.TimedAct) (met : BTreeSet Naming) → timed.act.dest ≡ None → meetings.AreMetBy acts met → meetings.AreMetBy (acts ++ timed ∷ []) met
joins_none acts timed met none were naming =
    one_more acts timed (meetings.joins naming) (contains namings.naming_cmp met naming) (contains namings.naming_cmp met naming) (or_none (contains namings.naming_cmp met naming) ∙ ap (λ b. contains namings.naming_cmp met naming || b) (sym nobody))
    (were naming)
  where
    nobody : meetings.joins naming timed ≡ false
    nobody =
        ap (λ d. (speech.is_prefix timed.act.source naming.source && speech.is_for d naming.dest) || (speech.is_prefix timed.act.source naming.dest && speech.is_for d naming.source)) none
        ∙ ap (λ b. b || (speech.is_prefix timed.act.source naming.dest && false)) (and_none (speech.is_prefix timed.act.source naming.source)) ∙ and_none (speech.is_prefix timed.act.source naming.dest)

either : (same old : Bool) → cond same true old ≡ (old || same)
either true true = refl
either true false = refl
either false true = refl
either false false = refl

joins_is : (timed : tellings.TimedAct) (dest : GuidPrefix) (naming : Naming) → timed.act.dest ≡ Some dest
    → meetings.joins naming timed ≡ (is_eq (namings.naming_cmp (record { source = timed.act.source; dest = dest }) naming) || is_eq (namings.naming_cmp (record { source = dest; dest = timed.act.source }) naming))
joins_is timed dest naming some =
    ap (λ d. (speech.is_prefix timed.act.source naming.source && speech.is_for d naming.dest) || (speech.is_prefix timed.act.source naming.dest && speech.is_for d naming.source)) some
    ∙ ap (λ b. b || (speech.is_prefix timed.act.source naming.dest && speech.is_prefix dest naming.source)) (sym (alike (record { source = timed.act.source; dest = dest }) naming))
    ∙ ap (λ b. is_eq (namings.naming_cmp (record { source = timed.act.source; dest = dest }) naming) || b)
    (and_swap (speech.is_prefix timed.act.source naming.dest) (speech.is_prefix dest naming.source) ∙ sym (alike (record { source = dest; dest = timed.act.source }) naming))

met_more : (old between new there back joined : Bool) → between ≡ cond there true old → new ≡ cond back true between → joined ≡ (there || back) → new ≡ (old || joined)
met_more old between new there back joined first second is =
    second ∙ either back between ∙ ap (λ b. b || back) (first ∙ either there old) ∙ sym (or_join old there back) ∙ ap (λ b. old || b) (sym is)

-- an act with one joins the two
pub joins_more : (acts : List tellings.TimedAct) (timed : tellings.TimedAct) (old between new : BTreeSet Naming) (dest : GuidPrefix) → timed.act.dest ≡ Some dest
    → ((naming : Naming) → contains namings.naming_cmp between naming ≡ cond (is_eq (namings.naming_cmp (record { source = timed.act.source; dest = dest }) naming)) true (contains namings.naming_cmp old naming))
    → ((naming : Naming) → contains namings.naming_cmp new naming ≡ cond (is_eq (namings.naming_cmp (record { source = dest; dest = timed.act.source }) naming)) true (contains namings.naming_cmp between naming))
    → meetings.AreMetBy acts old → meetings.AreMetBy (acts ++ timed ∷ []) new
joins_more acts timed old between new dest some first second were naming =
    one_more acts timed (meetings.joins naming) (contains namings.naming_cmp old naming) (contains namings.naming_cmp new naming)
    (met_more (contains namings.naming_cmp old naming) (contains namings.naming_cmp between naming) (contains namings.naming_cmp new naming) _ _ (meetings.joins naming timed) (first naming) (second naming) (joins_is timed dest naming some))
    (were naming)

joins_back : (naming : Naming) → meetings.joins (silence.reversed naming) ≡ meetings.joins naming
joins_back naming = λ i timed. or_swap (namings.names (silence.reversed naming) timed.act) (namings.names naming timed.act) i

-- two that were joined before stay joined
pub met_before : (acts : List tellings.TimedAct) (old between : BTreeSet Naming) (first : Naming) → contains namings.naming_cmp old first ≡ true
    → ((naming : Naming) → contains namings.naming_cmp between naming ≡ cond (is_eq (namings.naming_cmp first naming)) true (contains namings.naming_cmp old naming)) → meetings.AreMetBy acts old
    → (naming : Naming) → contains namings.naming_cmp between naming ≡ cond (is_eq (namings.naming_cmp (silence.reversed first) naming)) true (contains namings.naming_cmp between naming)
met_before acts old between first there with were naming = by (is_eq (namings.naming_cmp (silence.reversed first) naming)) refl
  where
    back : contains namings.naming_cmp old (silence.reversed first) ≡ true
    back = were (silence.reversed first) ∙ ap (λ test. list_any test acts) (joins_back first) ∙ sym (were first) ∙ there

    by : (b : Bool) → is_eq (namings.naming_cmp (silence.reversed first) naming) ≡ b → contains namings.naming_cmp between naming ≡ cond b true (contains namings.naming_cmp between naming)
    by false e = refl
    by true e =
        let same : silence.reversed first ≡ naming = one_naming (silence.reversed first) naming e in
        let kept : contains namings.naming_cmp old naming ≡ true = ap (contains namings.naming_cmp old) (sym same) ∙ back in
        with naming ∙ ap (λ b. cond (is_eq (namings.naming_cmp first naming)) true b) kept ∙ always (is_eq (namings.naming_cmp first naming))

-- ---- what is kept of each writer

pub guids_alike : (one other : Guid) → is_at (guid_order.guid_cmp one) other ≡ tellings.is_guid one other
guids_alike one other = sym (both_tied _ _ (slice_cmp nat_cmp one.prefix.0 other.prefix.0) (slice_cmp nat_cmp one.entity.0 other.entity.0) (texts_ties one.prefix.0 other.prefix.0) (texts_ties one.entity.0 other.entity.0))

-- the acts about a writer, after one more that is, or is not
about_more : (writer : Guid) (acts : List tellings.TimedAct) (timed : tellings.TimedAct) (here : Bool) → recorded.is_about writer timed ≡ here → recorded.about writer (acts ++ timed ∷ []) ≡ recorded.about writer acts ++ cond here (timed ∷ []) []
about_more writer acts timed here is = filter-append (recorded.is_about writer) acts (timed ∷ []) ∙ ap (λ b. recorded.about writer acts ++ cond b (timed ∷ []) []) is

about_other : (writer : Guid) (acts : List tellings.TimedAct) (timed : tellings.TimedAct) → recorded.is_about writer timed ≡ false → recorded.about writer acts ≡ recorded.about writer (acts ++ timed ∷ [])
about_other writer acts timed is = sym (append-nil (recorded.about writer acts)) ∙ sym (about_more writer acts timed false is)

bulletin_stays : (writer : Guid) (acts : List tellings.TimedAct) (timed : tellings.TimedAct) (kept : Option Bulletin) → recorded.is_about writer timed ≡ false
    → MatchOption kept (recorded.about writer acts ≡ []) (bulletins.IsBulletinOf (recorded.about writer acts)) → MatchOption kept (recorded.about writer (acts ++ timed ∷ []) ≡ []) (bulletins.IsBulletinOf (recorded.about writer (acts ++ timed ∷ [])))
bulletin_stays writer acts timed kept is were =
    let P : List tellings.TimedAct → Type 0 = λ l. MatchOption kept (l ≡ []) (bulletins.IsBulletinOf l) in
    subst P (about_other writer acts timed is) were

-- an act about no writer
pub about_none : (acts : List tellings.TimedAct) (timed : tellings.TimedAct) (bulletins : BTreeMap Guid Bulletin) → None ≡ tellings.subject_of timed.act → recorded.AreBulletinsOf acts bulletins → recorded.AreBulletinsOf (acts ++ timed ∷ []) bulletins
about_none acts timed bulletins none were writer =
    bulletin_stays writer acts timed (get guid_order.guid_cmp bulletins writer) (ap (tellings.holds (λ subject. tellings.is_guid subject writer)) (sym none)) (were writer)

-- what was kept of a writer, or what is kept of no acts
taken_is : (acts : List tellings.TimedAct) (kept : Option Bulletin) (bulletin : Bulletin) → MatchOption kept (bulletins.IsBulletinOf [] bulletin) (λ old. bulletin ≡ old) → MatchOption kept (acts ≡ []) (bulletins.IsBulletinOf acts)
    → bulletins.IsBulletinOf acts bulletin
taken_is acts None bulletin new were = let P : List tellings.TimedAct → Type 0 = λ l. bulletins.IsBulletinOf l bulletin in subst P (sym were) new
taken_is acts (Some old) bulletin same were = let P : Bulletin → Type 0 = λ a. bulletins.IsBulletinOf acts a in subst P (sym same) were

-- an act about this writer
pub about_one : (acts : List tellings.TimedAct) (timed : tellings.TimedAct) (old new : BTreeMap Guid Bulletin) (writer : Guid) (bulletin more : Bulletin) → Some writer ≡ tellings.subject_of timed.act
    → MatchOption (get guid_order.guid_cmp old writer) (bulletins.IsBulletinOf [] bulletin) (λ kept. bulletin ≡ kept)
    → ((own : List tellings.TimedAct) → bulletins.IsBulletinOf own bulletin → bulletins.IsBulletinOf (own ++ timed ∷ []) more)
    → ((other : Guid) → get guid_order.guid_cmp new other ≡ cond (is_at (guid_order.guid_cmp writer) other) (Some more) (get guid_order.guid_cmp old other))
    → recorded.AreBulletinsOf acts old → recorded.AreBulletinsOf (acts ++ timed ∷ []) new
about_one acts timed old new writer bulletin more some taken noted with were other = by (is_at (guid_order.guid_cmp writer) other) refl
  where
    by : (same : Bool) → is_at (guid_order.guid_cmp writer) other ≡ same → MatchOption (get guid_order.guid_cmp new other) (recorded.about other (acts ++ timed ∷ []) ≡ []) (bulletins.IsBulletinOf (recorded.about other (acts ++ timed ∷ [])))
    by false e =
        let is : recorded.is_about other timed ≡ false = ap (tellings.holds (λ subject. tellings.is_guid subject other)) (sym some) ∙ sym (guids_alike writer other) ∙ e in
        let kept : get guid_order.guid_cmp old other ≡ get guid_order.guid_cmp new other =
        sym (with other ∙ ap (λ b. cond b (Some more) (get guid_order.guid_cmp old other)) e) in
        let P : Option Bulletin → Type 0 = λ o. MatchOption o (recorded.about other (acts ++ timed ∷ []) ≡ []) (bulletins.IsBulletinOf (recorded.about other (acts ++ timed ∷ []))) in
        subst P kept (bulletin_stays other acts timed (get guid_order.guid_cmp old other) is (were other))
    by true e =
        let one : writer ≡ other = tells_apart exact_guids writer other e in
        let is : recorded.is_about other timed ≡ true = ap (tellings.holds (λ subject. tellings.is_guid subject other)) (sym some) ∙ sym (guids_alike writer other) ∙ e in
        let kept : Some more ≡ get guid_order.guid_cmp new other = sym (with other ∙ ap (λ b. cond b (Some more) (get guid_order.guid_cmp old other)) e) in
        let P : Option Bulletin → Type 0 = λ o. MatchOption o (recorded.about other (acts ++ timed ∷ []) ≡ []) (bulletins.IsBulletinOf (recorded.about other (acts ++ timed ∷ []))) in
        let T : Guid → Type 0 = λ g. MatchOption (get guid_order.guid_cmp old g) (bulletins.IsBulletinOf [] bulletin) (λ kept. bulletin ≡ kept) in
        let R : List tellings.TimedAct → Type 0 = λ l. bulletins.IsBulletinOf l more in
        let own : bulletins.IsBulletinOf (recorded.about other acts) bulletin = taken_is (recorded.about other acts) (get guid_order.guid_cmp old other) bulletin (subst T one taken) (were other) in
        subst P kept (subst R (sym (about_more other acts timed true is)) (noted (recorded.about other acts) own))
