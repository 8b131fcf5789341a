-- One act more of what is kept of built-in writers.
use Rattle.std.proofs.Common.{◌≡◌, ◌∙◌, ℕ, Bool, true, false, ◌||◌, ◌&&◌, List, [], ◌∷◌, ◌++◌, MatchOption, Option, Some, None, ap, ap₂, cond, nat_lt, not, refl, subst, sym, unwrap_or}
use Rattle.std.specs.BTreeMap.{BTreeMap, get, is_at}
use Rattle.std.specs.BTreeSet.{contains}
use Rattle.std.specs.List.{list_any}
use Rattle.std.specs.Option.{is_some, option_or}
use Rattle.std.proofs.lemmas.Bool.{false≢true}
use Rattle.std.proofs.lemmas.Map.Text.{is_eq-slice_cmp}
use Rattle.std.proofs.lemmas.Map.Views.{tells_apart}
use Rattle.rtps_ids.specs.declared.identity.Guid.{Guid}
use Rattle.rtps_ids.specs.declared.identity.GuidPrefix.{GuidPrefix}
use Rattle.rtps_discovery.specs.GuidOrder as guid_order
use Rattle.rtps_receiver.specs.Said as said
use Rattle.rtps_receiver.specs.Speech as speech
use Rattle.rtps_receiver.specs.Values as values
use Rattle.rtps_known.specs.Bulletins as bulletins
use Rattle.rtps_known.specs.Learning as learning
use Rattle.rtps_known.specs.Places as places
use Rattle.rtps_known.specs.Spreads as spreads_spec
use Rattle.rtps_known.specs.Tellings as tellings
use Rattle.rtps_known.specs.declared.place.Place.{Place}
use Rattle.rtps_known.specs.declared.sending.Hearing.{Hearing}
use Rattle.rtps_known.specs.declared.spread.Spread.{Spread}
use Rattle.rtps_known.proofs.BoolLemmas.{and_all, and_none}
use Rattle.rtps_known.proofs.KnownLemmas.{guids_alike}
use Rattle.rtps_known.proofs.OrderLemmas.{exact_guids, exact_prefixes, one_prefix}
use Rattle.rtps_known.proofs.HeardLemmas.{again_with, any_more, heard_more, place_any, place_more}

pub nothing_more : {X : Type 0} (kept : Option X) → kept ≡ option_or kept None
nothing_more None = refl
nothing_more (Some kept) = refl

-- ---- two lists that tell the same

pub same_refl : (inquiry : learning.Inquiry) (acts : List places.PlacedAct) → spreads_spec.TellsTheSame inquiry acts acts
same_refl inquiry acts = record { first = refl; claimed = refl; again = refl }

-- with one act more that tells nothing new
same_idle : (inquiry : learning.Inquiry) (one other : List places.PlacedAct) (placed : places.PlacedAct) → learning.hears inquiry placed ≡ false → learning.asks inquiry placed ≡ false
    → (learning.claims inquiry placed ≡ true → list_any (learning.claims inquiry) other ≡ true) → spreads_spec.TellsTheSame inquiry one other → spreads_spec.TellsTheSame inquiry one (other ++ placed ∷ [])
same_idle inquiry one other placed unheard unasked known were =
    record {
      first = were.first ∙ nothing_more (places.place_of (learning.hears inquiry) other) ∙ ap (λ b. option_or (places.place_of (learning.hears inquiry) other) (cond b (Some placed.place) None)) (sym unheard)
          ∙ sym (place_more (learning.hears inquiry) other placed);
      claimed = were.claimed ∙ first_claim (learning.claims inquiry placed) known (places.place_of (learning.claims inquiry) other) (place_any (learning.claims inquiry) other) ∙ sym (place_more (learning.claims inquiry) other placed);
      again = were.again ∙ by (list_any (learning.claims inquiry) other) (learning.claims inquiry placed)
          ∙ ap₂ (λ (a h : Bool). again_with (list_any (learning.claims inquiry) other) (learning.claims inquiry placed) a (learning.heard_again inquiry other) (cond h (Some placed.place) None)) (sym unasked) (sym unheard)
          ∙ sym (heard_more inquiry other placed);
    }
  where
    first_claim : (b : Bool) → (b ≡ true → list_any (learning.claims inquiry) other ≡ true) → (o : Option Place) → is_some o ≡ list_any (learning.claims inquiry) other
        → o ≡ option_or o (cond b (Some placed.place) None)
    first_claim false any o e = nothing_more o
    first_claim true any (Some place) e = refl
    first_claim true any None e = absurd (false≢true (e ∙ any refl))

    by : (claimed claiming : Bool) → learning.heard_again inquiry other ≡ again_with claimed claiming false (learning.heard_again inquiry other) None
    by true claiming = refl
    by false true = refl
    by false false = nothing_more (learning.heard_again inquiry other)

-- ---- an act about another writer

pub elsewhere : (writer : Guid) (acts : List places.PlacedAct) (placed : places.PlacedAct) (steps : List places.PlacedAct) → learning.is_about writer placed.act ≡ false
    → ((prefix : GuidPrefix) (n : ℕ) → spreads_spec.TellsTheSame (spreads_spec.inquiry_of writer prefix n) steps acts) → (prefix : GuidPrefix) (n : ℕ)
    → spreads_spec.TellsTheSame (spreads_spec.inquiry_of writer prefix n) steps (acts ++ placed ∷ [])
elsewhere writer acts placed steps away were prefix n =
    let i : learning.Inquiry = spreads_spec.inquiry_of writer prefix n in
    let unheard : learning.hears i placed ≡ false = gone (learning.sends placed.act.body n && tellings.is_to placed.act.dest prefix) in
    let unasked : learning.asks i placed ≡ false = gone (speech.is_prefix placed.act.source prefix && (said.said placed.act.body).lacked n) in
    let unclaimed : learning.claims i placed ≡ false = gone (speech.is_prefix placed.act.source prefix && nat_lt n (learning.base_in placed.act.body)) in
    same_idle i steps acts placed unheard unasked (λ so. absurd (false≢true (sym unclaimed ∙ so))) (were prefix n)
  where
    gone : (b : Bool) → (learning.is_about writer placed.act && b) ≡ false
    gone b = ap (λ a. a && b) away

any_same : (inquiry : learning.Inquiry) (one other : List places.PlacedAct) → spreads_spec.TellsTheSame inquiry one other → list_any (learning.claims inquiry) one ≡ list_any (learning.claims inquiry) other
any_same inquiry one other same = sym (place_any (learning.claims inquiry) one) ∙ ap is_some same.claimed ∙ place_any (learning.claims inquiry) other

again_same : (inquiry : learning.Inquiry) (one other : List places.PlacedAct) (kept : Option (Option Place)) → spreads_spec.TellsTheSame inquiry one other
    → MatchOption kept (spreads_spec.LearnedFirst inquiry one) (spreads_spec.HeardAgain inquiry one) → MatchOption kept (spreads_spec.LearnedFirst inquiry other) (spreads_spec.HeardAgain inquiry other)
again_same inquiry one other None same were =
    record {
      place = sym (ap₂ option_or same.again same.first) ∙ were.place ∙ same.first;
      again = λ none. sym same.again ∙ were.again (any_same inquiry one other same ∙ none) ∙ same.first;
    }
again_same inquiry one other (Some again) same were = record { place = were.place ∙ same.again; heard = ap is_some (sym same.first) ∙ were.heard }

-- what is kept of acts is that of others that tell the same
spread_same : (writer : Guid) (acts others : List places.PlacedAct) (spread : Spread)
    → ((prefix : GuidPrefix) (n : ℕ) → spreads_spec.TellsTheSame (spreads_spec.inquiry_of writer prefix n) acts others) → spreads_spec.IsSpreadOf writer acts spread → spreads_spec.IsSpreadOf writer others spread
spread_same writer acts others spread same were =
    record {
      sent = λ prefix n. were.sent prefix n ∙ (same prefix n).first;
      again = λ prefix n. again_same (spreads_spec.inquiry_of writer prefix n) acts others (spreads_spec.again_kept spread.again prefix n) (same prefix n) (were.again prefix n);
      askers = were.askers;
      bases = λ prefix n. were.bases prefix n ∙ any_same (spreads_spec.inquiry_of writer prefix n) acts others (same prefix n);
      firsts = λ prefix. were.firsts prefix ∙ (same prefix 1).claimed;
    }

spread_stays : (writer : Guid) (acts : List places.PlacedAct) (placed : places.PlacedAct) (kept : Option Spread) → learning.is_about writer placed.act ≡ false
    → MatchOption kept (spreads_spec.IsQuietIn writer acts) (spreads_spec.IsSpreadOf writer acts) → MatchOption kept (spreads_spec.IsQuietIn writer (acts ++ placed ∷ [])) (spreads_spec.IsSpreadOf writer (acts ++ placed ∷ []))
spread_stays writer acts placed None away were = elsewhere writer acts placed [] away were
spread_stays writer acts placed (Some spread) away were =
    spread_same writer acts (acts ++ placed ∷ []) spread (elsewhere writer acts placed acts away (λ prefix n. same_refl (spreads_spec.inquiry_of writer prefix n) acts)) were

-- an act about no writer
pub about_nobody : (acts : List places.PlacedAct) (placed : places.PlacedAct) (spreads : BTreeMap Guid Spread) → None ≡ learning.subject_in placed.act → spreads_spec.AreSpreadsOf acts spreads
    → spreads_spec.AreSpreadsOf (acts ++ placed ∷ []) spreads
about_nobody acts placed spreads none were writer =
    spread_stays writer acts placed (get guid_order.guid_cmp spreads writer) (ap (tellings.holds (λ subject. tellings.is_guid subject writer)) (sym none)) (were writer)

-- what was kept of a writer, or what is kept of no acts
taken_is : (writer : Guid) (acts : List places.PlacedAct) (kept : Option Spread) (spread : Spread)
    → MatchOption kept ((other : Guid) → spreads_spec.IsSpreadOf other [] spread) (λ old. spread ≡ old) → MatchOption kept (spreads_spec.IsQuietIn writer acts) (spreads_spec.IsSpreadOf writer acts) → spreads_spec.IsSpreadOf writer acts spread
taken_is writer acts None spread new were = spread_same writer [] acts spread were (new writer)
taken_is writer acts (Some old) spread same were = let P : Spread → Type 0 = λ a. spreads_spec.IsSpreadOf writer acts a in subst P (sym same) were

-- an act about this writer
pub about_this : (acts : List places.PlacedAct) (placed : places.PlacedAct) (old new : BTreeMap Guid Spread) (writer : Guid) (spread more : Spread) → Some writer ≡ learning.subject_in placed.act
    → MatchOption (get guid_order.guid_cmp old writer) ((other : Guid) → spreads_spec.IsSpreadOf other [] spread) (λ kept. spread ≡ kept)
    → ((other : Guid) (own : List places.PlacedAct) → learning.is_about other placed.act ≡ true → spreads_spec.IsSpreadOf other own spread → spreads_spec.IsSpreadOf other (own ++ placed ∷ []) more)
    → ((other : Guid) → get guid_order.guid_cmp new other ≡ cond (is_at (guid_order.guid_cmp writer) other) (Some more) (get guid_order.guid_cmp old other))
    → spreads_spec.AreSpreadsOf acts old → spreads_spec.AreSpreadsOf (acts ++ placed ∷ []) new
about_this acts placed old new writer spread more some taken noted with were other = by (is_at (guid_order.guid_cmp writer) other) refl
  where
    by : (same : Bool) → is_at (guid_order.guid_cmp writer) other ≡ same
        → MatchOption (get guid_order.guid_cmp new other) (spreads_spec.IsQuietIn other (acts ++ placed ∷ [])) (spreads_spec.IsSpreadOf other (acts ++ placed ∷ []))
    by false e =
        let is : learning.is_about other placed.act ≡ false = ap (tellings.holds (λ subject. tellings.is_guid subject other)) (sym some) ∙ sym (guids_alike writer other) ∙ e in
        let kept : get guid_order.guid_cmp old other ≡ get guid_order.guid_cmp new other =
        sym (with other ∙ ap (λ b. cond b (Some more) (get guid_order.guid_cmp old other)) e) in
        let P : Option Spread → Type 0 = λ o. MatchOption o (spreads_spec.IsQuietIn other (acts ++ placed ∷ [])) (spreads_spec.IsSpreadOf other (acts ++ placed ∷ [])) in
        subst P kept (spread_stays other acts placed (get guid_order.guid_cmp old other) is (were other))
    by true e =
        let one : writer ≡ other = tells_apart exact_guids writer other e in
        let is : learning.is_about other placed.act ≡ true = ap (tellings.holds (λ subject. tellings.is_guid subject other)) (sym some) ∙ sym (guids_alike writer other) ∙ e in
        let kept : Some more ≡ get guid_order.guid_cmp new other = sym (with other ∙ ap (λ b. cond b (Some more) (get guid_order.guid_cmp old other)) e) in
        let P : Option Spread → Type 0 = λ o. MatchOption o (spreads_spec.IsQuietIn other (acts ++ placed ∷ [])) (spreads_spec.IsSpreadOf other (acts ++ placed ∷ [])) in
        let T : Guid → Type 0 = λ g. MatchOption (get guid_order.guid_cmp old g) ((other : Guid) → spreads_spec.IsSpreadOf other [] spread) (λ kept. spread ≡ kept) in
        subst P kept (noted other acts is (taken_is other acts (get guid_order.guid_cmp old other) spread (subst T one taken) (were other)))

-- ---- an act about the writer

-- where a participant acknowledges a number first: none was kept
pub first_new : (old new : GuidPrefix → Option Place) (source : GuidPrefix) (holds : Bool) (place : Place) → holds ≡ true → is_some (old source) ≡ false
    → ((prefix : GuidPrefix) → new prefix ≡ cond (is_at (bulletins.prefix_cmp source) prefix) (Some place) (old prefix)) → (prefix : GuidPrefix)
    → new prefix ≡ option_or (old prefix) (cond (speech.is_prefix source prefix && holds) (Some place) None)
first_new old new source holds place held absent updates prefix =
    updates prefix ∙ by (is_at (bulletins.prefix_cmp source) prefix) refl
    ∙ ap (λ b. option_or (old prefix) (cond b (Some place) None))
    (is_eq-slice_cmp source.0 prefix.0 ∙ and_all (speech.is_prefix source prefix) ∙ ap (λ b. speech.is_prefix source prefix && b) (sym held))
  where
    empty : (o : Option Place) → is_some o ≡ false → Some place ≡ option_or o (Some place)
    empty None e = refl
    empty (Some kept) e = absurd (false≢true (sym e))

    by : (same : Bool) → is_at (bulletins.prefix_cmp source) prefix ≡ same → cond same (Some place) (old prefix) ≡ option_or (old prefix) (cond same (Some place) None)
    by true e = empty (old prefix) (ap (λ p. is_some (old p)) (sym (tells_apart exact_prefixes source prefix e)) ∙ absent)
    by false e = nothing_more (old prefix)

-- one was
pub first_there : (old : GuidPrefix → Option Place) (source : GuidPrefix) (holds : Bool) (place : Place) → is_some (old source) ≡ true → (prefix : GuidPrefix)
    → old prefix ≡ option_or (old prefix) (cond (speech.is_prefix source prefix && holds) (Some place) None)
first_there old source holds place there prefix = by (speech.is_prefix source prefix) refl
  where
    full : (o more : Option Place) → is_some o ≡ true → o ≡ option_or o more
    full (Some kept) more e = refl
    full None more e = absurd (false≢true e)

    by : (same : Bool) → speech.is_prefix source prefix ≡ same → old prefix ≡ option_or (old prefix) (cond (same && holds) (Some place) None)
    by true e = full (old prefix) (cond holds (Some place) None) (ap (λ p. is_some (old p)) (sym (one_prefix source prefix e)) ∙ there)
    by false e = nothing_more (old prefix)

-- it acknowledges none
pub first_same : (old : GuidPrefix → Option Place) (source : GuidPrefix) (holds : Bool) (place : Place) → holds ≡ false → (prefix : GuidPrefix)
    → old prefix ≡ option_or (old prefix) (cond (speech.is_prefix source prefix && holds) (Some place) None)
first_same old source holds place none prefix =
    nothing_more (old prefix)
    ∙ ap (λ b. option_or (old prefix) (cond b (Some place) None)) (sym (and_none (speech.is_prefix source prefix)) ∙ ap (λ b. speech.is_prefix source prefix && b) (sym none))

-- ---- one number and one participant, with one act more

-- what holds where nothing is kept, and where something is
abbrev First : Option Place → Option Place → Bool → Type 0
First first again claimed = (option_or again first ≡ first) × (claimed ≡ false → again ≡ first)

abbrev Again : Option Place → Option Place → Option Place → Type 0
Again first again kept = (kept ≡ again) × (is_some first ≡ true)

or_assoc : (a b c : Option Place) → option_or (option_or a b) c ≡ option_or a (option_or b c)
or_assoc None b c = refl
or_assoc (Some a) b c = refl

or_same : (a : Option Place) (place : Place) → option_or (option_or a (Some place)) (option_or a (Some place)) ≡ option_or a (Some place)
or_same None place = refl
or_same (Some a) place = refl

some_or : (a b : Option Place) → is_some a ≡ true → is_some (option_or a b) ≡ true
some_or (Some a) b e = refl
some_or None b e = absurd (false≢true e)

-- where the number is acknowledged what is kept stays
stays : (first again here : Option Place) (was : Bool) (kept : Option (Option Place)) → MatchOption kept (First first again was) (Again first again)
    → MatchOption kept (First (option_or first here) again true) (Again (option_or first here) again)
stays first again here was None were =
    (sym (or_assoc again first here) ∙ ap (λ o. option_or o here) were.0, λ e. absurd (false≢true (sym e)))
stays first again here was (Some kept) were = (were.0, some_or first here were.1)

step : (place : Place) (first again : Option Place) (claimed claiming asking hearing asker : Bool) (kept : Option (Option Place))
    → MatchOption kept (First first again claimed) (Again first again) → (hearing ≡ true → asking ≡ false) → (is_some kept ≡ true → asker ≡ true)
    → MatchOption (spreads_spec.filled (not (claimed || claiming) && (hearing && asker)) place (cond (not (claimed || claiming) && (asking && is_some first)) (Some None) kept))
    (First (option_or first (cond hearing (Some place) None)) (again_with claimed claiming asking again (cond hearing (Some place) None)) (claimed || claiming))
    (Again (option_or first (cond hearing (Some place) None)) (again_with claimed claiming asking again (cond hearing (Some place) None)))
step place first again true claiming asking hearing asker kept were apart known = stays first again (cond hearing (Some place) None) true kept were
step place first again false true asking hearing asker kept were apart known = stays first again (cond hearing (Some place) None) false kept were
step place first again false false true true asker kept were apart known = absurd (false≢true (sym (apart refl)))
step place (Some first) again false false true false asker kept were apart known = (refl, refl)
step place None again false false true false asker None were apart known = (refl, λ e. refl)
step place None again false false true false asker (Some kept) were apart known = absurd (false≢true were.1)
step place first again false false false false asker None were apart known =
    (ap₂ option_or (sym (nothing_more again)) (sym (nothing_more first)) ∙ were.0 ∙ nothing_more first, λ e. sym (nothing_more again) ∙ were.1 e ∙ nothing_more first)
step place first again false false false false asker (Some kept) were apart known =
    (were.0 ∙ nothing_more again, ap is_some (sym (nothing_more first)) ∙ were.1)
step place first again false false false true true None were apart known =
    (ap (λ a. option_or (option_or a (Some place)) (option_or first (Some place))) (were.1 refl) ∙ or_same first place, λ e. ap (λ a. option_or a (Some place)) (were.1 refl))
step place first again false false false true false None were apart known =
    (ap (λ a. option_or (option_or a (Some place)) (option_or first (Some place))) (were.1 refl) ∙ or_same first place, λ e. ap (λ a. option_or a (Some place)) (were.1 refl))
step place first again false false false true true (Some kept) were apart known =
    (ap (λ a. option_or a (Some place)) were.0, some_or first (Some place) were.1)
step place first again false false false true false (Some kept) were apart known = absurd (false≢true (known refl))

parts_of : (inquiry : learning.Inquiry) (acts : List places.PlacedAct) (kept : Option (Option Place)) → MatchOption kept (spreads_spec.LearnedFirst inquiry acts) (spreads_spec.HeardAgain inquiry acts)
    → MatchOption kept (First (places.place_of (learning.hears inquiry) acts) (learning.heard_again inquiry acts) (list_any (learning.claims inquiry) acts)) (Again (places.place_of (learning.hears inquiry) acts) (learning.heard_again inquiry acts))
parts_of inquiry acts None were = (were.place, were.again)
parts_of inquiry acts (Some kept) were = (were.place, were.heard)

whole_of : (inquiry : learning.Inquiry) (acts : List places.PlacedAct) (kept : Option (Option Place)) (first again : Option Place) (claimed : Bool) → places.place_of (learning.hears inquiry) acts ≡ first
    → learning.heard_again inquiry acts ≡ again → list_any (learning.claims inquiry) acts ≡ claimed → MatchOption kept (First first again claimed) (Again first again)
    → MatchOption kept (spreads_spec.LearnedFirst inquiry acts) (spreads_spec.HeardAgain inquiry acts)
whole_of inquiry acts None first again claimed f a c parts =
    record { place = ap₂ option_or a f ∙ parts.0 ∙ sym f; again = λ none. a ∙ parts.1 (sym c ∙ none) ∙ sym f }
whole_of inquiry acts (Some kept) first again claimed f a c parts = record { place = parts.0 ∙ sym a; heard = ap is_some f ∙ parts.1 }

-- ---- what is kept, with one act more

-- an act sends this number to this participant
abbrev sends_by : values.ActValue → GuidPrefix → ℕ → Bool
sends_by act prefix n = learning.sends act.body n && tellings.is_to act.dest prefix

not_both : (body : values.ActBodyValue) (to own : Bool) (n : ℕ) → (learning.sends body n && to) ≡ true → (own && (said.said body).lacked n) ≡ false
not_both (values.ActBodyValue.Data value) to own n e = and_none own
not_both (values.ActBodyValue.AckNack value) to own n e = absurd (false≢true e)
not_both (values.ActBodyValue.Heartbeat value) to own n e = absurd (false≢true e)
not_both (values.ActBodyValue.Gap value) to own n e = absurd (false≢true e)
not_both (values.ActBodyValue.DataFrag value) to own n e = absurd (false≢true e)
not_both (values.ActBodyValue.NackFrag value) to own n e = absurd (false≢true e)

asker_known : (closed asking first : Bool) (kept : Option (Option Place)) (fill asker : Bool) (place : Place) → (asking ≡ true → asker ≡ true) → (is_some kept ≡ true → asker ≡ true)
    → is_some (spreads_spec.filled fill place (cond (not closed && (asking && first)) (Some None) kept)) ≡ true → asker ≡ true
asker_known closed asking first kept fill asker place asks was e = by closed asking first (unfilled fill (cond (not closed && (asking && first)) (Some None) kept) e) asks
  where
    unfilled : (fill : Bool) (kept : Option (Option Place)) → is_some (spreads_spec.filled fill place kept) ≡ true → is_some kept ≡ true
    unfilled true None e = e
    unfilled true (Some kept) e = refl
    unfilled false kept e = e

    by : (closed asking first : Bool) → is_some (cond (not closed && (asking && first)) (Some None) kept) ≡ true → (asking ≡ true → asker ≡ true) → asker ≡ true
    by true asking first e asks = was e
    by false false first e asks = was e
    by false true first e asks = asks refl

one_more : (writer : Guid) (acts : List places.PlacedAct) (placed : places.PlacedAct) (old new : Spread) → learning.is_about writer placed.act ≡ true
    → ((prefix : GuidPrefix) (n : ℕ) → spreads_spec.first_kept new.sent prefix n ≡ option_or (spreads_spec.first_kept old.sent prefix n) (cond (sends_by placed.act prefix n) (Some placed.place) None))
    → ((prefix : GuidPrefix) (n : ℕ) → spreads_spec.again_kept new.again prefix n
    ≡ spreads_spec.filled (not (nat_lt n (spreads_spec.base_kept new.bases prefix)) && (sends_by placed.act prefix n && contains bulletins.prefix_cmp new.askers prefix)) placed.place
    (cond (spreads_spec.opens old.sent new.bases placed.act prefix n) (Some None) (spreads_spec.again_kept old.again prefix n)))
    → ((prefix : GuidPrefix) → contains bulletins.prefix_cmp old.askers prefix ≡ true → contains bulletins.prefix_cmp new.askers prefix ≡ true)
    → ((prefix : GuidPrefix) (n : ℕ) → spreads_spec.asks_by placed.act prefix n ≡ true → contains bulletins.prefix_cmp new.askers prefix ≡ true)
    → spreads_spec.keeps_base old.bases new.bases placed.act.source (learning.base_in placed.act.body)
    → spreads_spec.keeps_first old.firsts new.firsts placed.act.source (nat_lt 1 (learning.base_in placed.act.body)) placed.place → spreads_spec.IsSpreadOf writer acts old → spreads_spec.IsSpreadOf writer (acts ++ placed ∷ []) new
one_more writer acts placed old new here sent again askers asker based firsted were =
    record {
      sent = λ prefix n. sent_now prefix n;
      again = λ prefix n. again_now prefix n;
      askers = λ prefix n there.
          asker_known (nat_lt n (spreads_spec.base_kept new.bases prefix)) (spreads_spec.asks_by placed.act prefix n) (is_some (spreads_spec.first_kept old.sent prefix n)) (spreads_spec.again_kept old.again prefix n)
          (not (nat_lt n (spreads_spec.base_kept new.bases prefix)) && (sends_by placed.act prefix n && contains bulletins.prefix_cmp new.askers prefix))
          (contains bulletins.prefix_cmp new.askers prefix) placed.place (asker prefix n) (λ was. askers prefix (were.askers prefix n was)) (ap is_some (sym (again prefix n)) ∙ there);
      bases = λ prefix n. closed prefix n ∙ sym (any_more (learning.claims (spreads_spec.inquiry_of writer prefix n)) acts placed);
      firsts = λ prefix.
          let i : learning.Inquiry = spreads_spec.inquiry_of writer prefix 1 in
          firsted prefix
          ∙ ap₂ (λ (o : Option Place) (b : Bool). option_or o (cond (b && (speech.is_prefix placed.act.source prefix && nat_lt 1 (learning.base_in placed.act.body))) (Some placed.place) None))
          (were.firsts prefix) (sym here)
          ∙ sym (place_more (learning.claims i) acts placed);
    }
  where
    hearing : (prefix : GuidPrefix) (n : ℕ) → sends_by placed.act prefix n ≡ learning.hears (spreads_spec.inquiry_of writer prefix n) placed
    hearing prefix n = ap (λ b. b && sends_by placed.act prefix n) (sym here)

    asking : (prefix : GuidPrefix) (n : ℕ) → spreads_spec.asks_by placed.act prefix n ≡ learning.asks (spreads_spec.inquiry_of writer prefix n) placed
    asking prefix n = ap (λ b. b && spreads_spec.asks_by placed.act prefix n) (sym here)

    closed : (prefix : GuidPrefix) (n : ℕ)
        → nat_lt n (spreads_spec.base_kept new.bases prefix) ≡ (list_any (learning.claims (spreads_spec.inquiry_of writer prefix n)) acts || learning.claims (spreads_spec.inquiry_of writer prefix n) placed)
    closed prefix n =
        based prefix n ∙ ap₂ (λ (a b : Bool). a || (b && (speech.is_prefix placed.act.source prefix && nat_lt n (learning.base_in placed.act.body)))) (were.bases prefix n) (sym here)

    sent_now : (prefix : GuidPrefix) (n : ℕ) → spreads_spec.first_kept new.sent prefix n ≡ places.place_of (learning.hears (spreads_spec.inquiry_of writer prefix n)) (acts ++ placed ∷ [])
    sent_now prefix n =
        sent prefix n ∙ ap₂ (λ (o : Option Place) (b : Bool). option_or o (cond b (Some placed.place) None)) (were.sent prefix n) (hearing prefix n)
        ∙ sym (place_more (learning.hears (spreads_spec.inquiry_of writer prefix n)) acts placed)

    again_now : (prefix : GuidPrefix) (n : ℕ)
        → MatchOption (spreads_spec.again_kept new.again prefix n) (spreads_spec.LearnedFirst (spreads_spec.inquiry_of writer prefix n) (acts ++ placed ∷ [])) (spreads_spec.HeardAgain (spreads_spec.inquiry_of writer prefix n) (acts ++ placed ∷ []))
    again_now prefix n =
        let i : learning.Inquiry = spreads_spec.inquiry_of writer prefix n in
        let kept = spreads_spec.again_kept old.again prefix n in
        let known = contains bulletins.prefix_cmp new.askers prefix in
        let ended : Bool = list_any (learning.claims i) acts || learning.claims i placed in
        let is : spreads_spec.again_kept new.again prefix n
        ≡ spreads_spec.filled (not ended && (learning.hears i placed && known)) placed.place (cond (not ended && (learning.asks i placed && is_some (places.place_of (learning.hears i) acts))) (Some None) kept) =
        again prefix n
        ∙ ap (λ b. spreads_spec.filled (not b && (sends_by placed.act prefix n && known)) placed.place (cond (not b && (spreads_spec.asks_by placed.act prefix n && is_some (spreads_spec.first_kept old.sent prefix n))) (Some None) kept)) (closed prefix n)
        ∙ ap (λ b. spreads_spec.filled (not ended && (b && known)) placed.place (cond (not ended && (spreads_spec.asks_by placed.act prefix n && is_some (spreads_spec.first_kept old.sent prefix n))) (Some None) kept)) (hearing prefix n)
        ∙ ap₂ (λ (b : Bool) (o : Option Place). spreads_spec.filled (not ended && (learning.hears i placed && known)) placed.place (cond (not ended && (b && is_some o)) (Some None) kept)) (asking prefix n) (were.sent prefix n) in
        let P : Option (Option Place) → Type 0 = λ o. MatchOption o (spreads_spec.LearnedFirst i (acts ++ placed ∷ [])) (spreads_spec.HeardAgain i (acts ++ placed ∷ [])) in
        subst P (sym is)
        (whole_of i (acts ++ placed ∷ []) _ _ _ _ (place_more (learning.hears i) acts placed) (heard_more i acts placed) (any_more (learning.claims i) acts placed)
        (step placed.place (places.place_of (learning.hears i) acts) (learning.heard_again i acts) (list_any (learning.claims i) acts) (learning.claims i placed) (learning.asks i placed) (learning.hears i placed) known kept
        (parts_of i acts kept (were.again prefix n))
        (λ e. sym (asking prefix n) ∙ not_both placed.act.body (tellings.is_to placed.act.dest prefix) (speech.is_prefix placed.act.source prefix) n (hearing prefix n ∙ e))
        (λ was. askers prefix (were.askers prefix n was))))

never : (closed to known : Bool) → (not closed && ((false && to) && known)) ≡ false
never true to known = refl
never false to known = refl

-- one that sends nothing
pub answer_more : (writer : Guid) (acts : List places.PlacedAct) (placed : places.PlacedAct) (old new : Spread) → learning.is_about writer placed.act ≡ true → None ≡ spreads_spec.hearing_in placed.act placed.place
    → spreads_spec.AnswerIsKept old new placed → spreads_spec.IsSpreadOf writer acts old → spreads_spec.IsSpreadOf writer (acts ++ placed ∷ []) new
answer_more writer acts placed old new here none kept were =
    one_more writer acts placed old new here
    (λ prefix n.
    ap (λ m. spreads_spec.first_kept m prefix n) kept.sent ∙ nothing_more (spreads_spec.first_kept old.sent prefix n)
    ∙ ap (λ b. option_or (spreads_spec.first_kept old.sent prefix n) (cond (b && tellings.is_to placed.act.dest prefix) (Some placed.place) None)) (sym (unsent placed.act.body n none)))
    (λ prefix n.
    kept.again prefix n
    ∙ ap (λ b. spreads_spec.filled b placed.place (cond (spreads_spec.opens old.sent new.bases placed.act prefix n) (Some None) (spreads_spec.again_kept old.again prefix n)))
    (sym (never (nat_lt n (spreads_spec.base_kept new.bases prefix)) (tellings.is_to placed.act.dest prefix) (contains bulletins.prefix_cmp new.askers prefix))
    ∙ ap (λ b. not (nat_lt n (spreads_spec.base_kept new.bases prefix)) && ((b && tellings.is_to placed.act.dest prefix) && contains bulletins.prefix_cmp new.askers prefix)) (sym (unsent placed.act.body n none))))
    kept.askers kept.asker kept.bases kept.firsts were
  where
    unsent : (body : values.ActBodyValue) (n : ℕ) → None ≡ spreads_spec.hearing_in (record placed.act { body = body }) placed.place → learning.sends body n ≡ false
    unsent (values.ActBodyValue.Data value) n e = absurd (let bad = e in cc)
    unsent (values.ActBodyValue.AckNack value) n e = refl
    unsent (values.ActBodyValue.Heartbeat value) n e = refl
    unsent (values.ActBodyValue.Gap value) n e = refl
    unsent (values.ActBodyValue.DataFrag value) n e = refl
    unsent (values.ActBodyValue.NackFrag value) n e = refl

-- what is heard is what the act sends
heard_is : (act : values.ActValue) (body : values.ActBodyValue) (place : Place) (hearing : Hearing) → Some hearing ≡ spreads_spec.hearing_in (record act { body = body }) place
    → ((prefix : GuidPrefix) (n : ℕ) → spreads_spec.hears_by hearing.sending prefix n ≡ (learning.sends body n && tellings.is_to act.dest prefix)) × (hearing.place ≡ place)
heard_is act (values.ActBodyValue.Data value) place hearing e =
    (λ prefix n. ap (λ o. spreads_spec.hears_by (unwrap_or o hearing).sending prefix n) e, ap (λ o. (unwrap_or o hearing).place) e)
heard_is act (values.ActBodyValue.AckNack value) place hearing e = absurd (let bad = e in cc)
heard_is act (values.ActBodyValue.Heartbeat value) place hearing e = absurd (let bad = e in cc)
heard_is act (values.ActBodyValue.Gap value) place hearing e = absurd (let bad = e in cc)
heard_is act (values.ActBodyValue.DataFrag value) place hearing e = absurd (let bad = e in cc)
heard_is act (values.ActBodyValue.NackFrag value) place hearing e = absurd (let bad = e in cc)

-- one that sends a number
pub hearing_more : (writer : Guid) (acts : List places.PlacedAct) (placed : places.PlacedAct) (old between new : Spread) (hearing : Hearing) → learning.is_about writer placed.act ≡ true
    → Some hearing ≡ spreads_spec.hearing_in placed.act placed.place → spreads_spec.AnswerIsKept old between placed → spreads_spec.HearingIsKept between new hearing → spreads_spec.IsSpreadOf writer acts old
    → spreads_spec.IsSpreadOf writer (acts ++ placed ∷ []) new
hearing_more writer acts placed old between new hearing here some answer kept were =
    let is = heard_is placed.act placed.act.body placed.place hearing some in
    one_more writer acts placed old new here
    (λ prefix n.
    kept.sent prefix n
    ∙ ap (λ m. option_or (spreads_spec.first_kept m prefix n) (cond (spreads_spec.hears_by hearing.sending prefix n) (Some hearing.place) None)) answer.sent
    ∙ ap₂ (λ (b : Bool) (place : Place). option_or (spreads_spec.first_kept old.sent prefix n) (cond b (Some place) None)) (is.0 prefix n) is.1)
    (λ prefix n.
    kept.again prefix n
    ∙ ap₂ (λ (b : Bool) (place : Place). spreads_spec.filled (not (nat_lt n (spreads_spec.base_kept between.bases prefix)) && (b && contains bulletins.prefix_cmp between.askers prefix)) place (spreads_spec.again_kept between.again prefix n)) (is.0 prefix n) is.1
    ∙ ap (λ o. spreads_spec.filled (not (nat_lt n (spreads_spec.base_kept between.bases prefix)) && (sends_by placed.act prefix n && contains bulletins.prefix_cmp between.askers prefix)) placed.place o) (answer.again prefix n)
    ∙ ap (λ bases. spreads_spec.filled (not (nat_lt n (spreads_spec.base_kept bases prefix)) && (sends_by placed.act prefix n && contains bulletins.prefix_cmp between.askers prefix)) placed.place
    (cond (spreads_spec.opens old.sent bases placed.act prefix n) (Some None) (spreads_spec.again_kept old.again prefix n))) (sym kept.bases)
    ∙ ap (λ askers. spreads_spec.filled (not (nat_lt n (spreads_spec.base_kept new.bases prefix)) && (sends_by placed.act prefix n && contains bulletins.prefix_cmp askers prefix)) placed.place
    (cond (spreads_spec.opens old.sent new.bases placed.act prefix n) (Some None) (spreads_spec.again_kept old.again prefix n))) (sym kept.askers))
    (λ prefix there. ap (λ askers. contains bulletins.prefix_cmp askers prefix) kept.askers ∙ answer.askers prefix there)
    (λ prefix n there. ap (λ askers. contains bulletins.prefix_cmp askers prefix) kept.askers ∙ answer.asker prefix n there)
    (λ prefix n. ap (λ bases. nat_lt n (spreads_spec.base_kept bases prefix)) kept.bases ∙ answer.bases prefix n)
    (λ prefix. ap (λ firsts. get bulletins.prefix_cmp firsts prefix) kept.firsts ∙ answer.firsts prefix) were

-- ---- what is kept tells

pub learned_kept : (writer : Guid) (acts : List places.PlacedAct) (spread : Spread) (prefix : GuidPrefix) (n : ℕ) → spreads_spec.IsSpreadOf writer acts spread
    → option_or (unwrap_or (spreads_spec.again_kept spread.again prefix n) None) (spreads_spec.first_kept spread.sent prefix n)
    ≡ option_or (learning.heard_again (spreads_spec.inquiry_of writer prefix n) acts) (places.place_of (learning.hears (spreads_spec.inquiry_of writer prefix n)) acts)
learned_kept writer acts spread prefix n were =
    ap (λ o. option_or (unwrap_or (spreads_spec.again_kept spread.again prefix n) None) o) (were.sent prefix n) ∙ by (spreads_spec.again_kept spread.again prefix n) (were.again prefix n)
  where
    i : learning.Inquiry
    i = spreads_spec.inquiry_of writer prefix n

    by : (kept : Option (Option Place)) → MatchOption kept (spreads_spec.LearnedFirst i acts) (spreads_spec.HeardAgain i acts)
        → option_or (unwrap_or kept None) (places.place_of (learning.hears i) acts) ≡ option_or (learning.heard_again i acts) (places.place_of (learning.hears i) acts)
    by None were = sym were.place
    by (Some again) were = ap (λ o. option_or o (places.place_of (learning.hears i) acts)) were.place
