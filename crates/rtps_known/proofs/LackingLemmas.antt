-- What a participant lacks, by what is kept of a writer.
use Rattle.std.proofs.Common.{◌≡◌, ◌∙◌, ℕ, ◌+◌, ◌-◌, ◌<◌, ◌≤◌, Bool, true, false, ◌||◌, ◌&&◌, List, [], ◌∷◌, ◌++◌, ap, arith, max, min, nat_eq, nat_le, nat_lt, not, refl, subst, sym}
use Rattle.std.specs.BTreeSet.{contains}
use Rattle.std.specs.BTreeMap.{is_at}
use Rattle.std.specs.Cmp.{unsigned_tied}
use Rattle.std.specs.List.{list_any}
use Rattle.std.specs.List.Sorted.{IsStrictlySortedBy}
use Rattle.std.specs.Ordering.{nat_cmp}
use Rattle.std.proofs.lemmas.List.Folds.{list_any-append}
use Rattle.rtps_coverage.specs.Counts as counts
use Rattle.rtps_coverage.specs.Stretches as stretches
use Rattle.rtps_coverage.specs.declared.stretch.Stretch.{Stretch}
use Rattle.rtps_coverage.proofs.Offered.{count_none, count_others, count_rest, count_same, count_split}
use Rattle.rtps_ids.specs.declared.identity.Guid.{Guid}
use Rattle.rtps_ids.specs.declared.identity.GuidPrefix.{GuidPrefix}
use Rattle.rtps_discovery.specs.GuidOrder as guid_order
use Rattle.rtps_known.specs.Bulletins as bulletins
use Rattle.rtps_known.specs.Lacking as lacking_spec
use Rattle.rtps_known.specs.Tellings as tellings
use Rattle.rtps_known.specs.declared.bulletin.Bulletin.{Bulletin}
use Rattle.rtps_known.specs.declared.lacking.Lacking.{Lacking}
use Rattle.rtps_known.specs.declared.layout.TheConstants as layout
use Rattle.rtps_known.proofs.BoolLemmas.{or_join, or_none}

-- ---- tests that agree

pub any_same : {X : Type 0} (one other : X → Bool) → ((x : X) → one x ≡ other x) → (xs : List X) → list_any one xs ≡ list_any other xs
any_same one other same [] = refl
any_same one other same (x ∷ xs) = ap (λ b. b || list_any one xs) (same x) ∙ ap (λ b. other x || b) (any_same one other same xs)

not_below : (base n : ℕ) → nat_le base n ≡ not (nat_lt n base)
not_below base n = grind arith

rearrange : (here told ended known : Bool) → here ≡ not known → (here && (told && not ended)) ≡ (told && (not ended && not known))
rearrange here told ended true is = ap (λ b. b && (told && not ended)) is ∙ none told ended
  where
    none : (told ended : Bool) → false ≡ (told && (not ended && false))
    none true true = refl
    none true false = refl
    none false ended = refl
rearrange here told ended false is = ap (λ b. b && (told && not ended)) is ∙ whole told ended
  where
    whole : (told ended : Bool) → (told && not ended) ≡ (told && (not ended && true))
    whole true true = refl
    whole true false = refl
    whole false ended = refl

ended_is : (acts : List tellings.TimedAct) (bulletin : Bulletin) → bulletins.IsBulletinOf acts bulletin → (n : ℕ) → contains nat_cmp bulletin.ended n ≡ lacking_spec.is_ended acts n
ended_is acts bulletin were n =
    any_same (is_at (nat_cmp n)) (nat_eq n) (λ m. unsigned_tied n m) bulletin.ended.keys ∙ were.ended (nat_eq n)

-- a number that is told, is not below the base, and ends nothing, is one that is lacking
pub still_lacks : (acts : List tellings.TimedAct) (bulletin : Bulletin) (prefix : GuidPrefix) (end : ℕ) (told : List Stretch) → bulletins.IsBulletinOf acts bulletin
    → ((n : ℕ) → stretches.stretches_have told n ≡ list_any (bulletins.reaches prefix end n) bulletin.told.entries) → (n : ℕ)
    → lacking_spec.is_still told bulletin (bulletins.base_by bulletin prefix) n ≡ lacking_spec.lacks acts prefix end n
still_lacks acts bulletin prefix end told were told_is n =
    rearrange (nat_le (bulletins.base_by bulletin prefix) n) (stretches.stretches_have told n) (contains nat_cmp bulletin.ended n) (list_any (tellings.acknowledges prefix n) acts)
    (not_below (bulletins.base_by bulletin prefix) n ∙ ap not (were.bases prefix n))
    ∙ ap (λ b. b && (not (contains nat_cmp bulletin.ended n) && not (list_any (tellings.acknowledges prefix n) acts))) (told_is n ∙ were.told prefix end n)
    ∙ ap (λ b. list_any (tellings.tells_until prefix end n) acts && (not b && not (list_any (tellings.acknowledges prefix n) acts))) (ended_is acts bulletin were n)

-- ---- counts

others_are : (told marked both : Bool) → both ≡ (marked || told) → (both && not marked) ≡ (told && not marked)
others_are true true both is = ap (λ b. b && false) is
others_are true false both is = ap (λ b. b && true) is
others_are false true both is = ap (λ b. b && false) is
others_are false false both is = ap (λ b. b && true) is

or_first : (a b : Bool) → a ≡ true → (a || b) ≡ true
or_first a b is = ap (λ x. x || b) is

-- how many have the one and not the other
pub counted_others : (told marked both : ℕ → Bool) (from : ℕ) → ((n : ℕ) → both n ≡ (marked n || told n))
    → counts.count_in both from layout.END ≡ counts.count_in marked from layout.END + counts.count_in (λ n. told n && not (marked n)) from layout.END
counted_others told marked both from is =
    count_rest marked both from layout.END (λ n has. is n ∙ or_first (marked n) (told n) has)
    ∙ ap (λ k. counts.count_in marked from layout.END + k)
    (count_same (λ n. both n && not (marked n)) (λ n. told n && not (marked n)) from layout.END (λ n low high. others_are (told n) (marked n) (both n) (is n)))

-- the one is counted before the other is there, and both behind it
pub counted_more : (told marked both : ℕ → Bool) (from before all : ℕ) → ((n : ℕ) → both n ≡ (marked n || told n)) → before ≡ counts.count_in marked from layout.END
    → all ≡ counts.count_in both from layout.END → all ≡ before + counts.count_in (λ n. told n && not (marked n)) from layout.END
counted_more told marked both from before all is before_is all_is =
    all_is ∙ counted_others told marked both from is ∙ ap (λ k. k + counts.count_in (λ n. told n && not (marked n)) from layout.END) (sym before_is)

pub sum_above : (all before more : ℕ) → all ≡ before + more → before ≤ all
sum_above all before more sum = omega (arith, sum)

pub sum_less : (all before more : ℕ) → all ≡ before + more → all - before ≡ more
sum_less all before more sum = omega (arith, sum)

pub less_most : (all before more most : ℕ) → all ≡ before + more → more ≤ most → all - before ≤ most
less_most all before more most sum at_most = omega (arith, sum, at_most)

first_most : (all one other : ℕ) → all ≡ one + other → one ≤ all
first_most all one other sum = omega (arith, sum)

pub count_at_most : (has : ℕ → Bool) (lo hi : ℕ) → counts.count_in has lo hi ≤ hi - lo
count_at_most has lo hi = first_most (hi - lo) (counts.count_in has lo hi) (counts.count_in (λ n. not (has n)) lo hi) (count_others has lo hi)

-- one stretch more, of what is next
pub marked_more : {X : Type 0} (test : X → Bool) (n : ℕ) (marked new : List Stretch) (one : Stretch) (x : X) (rest left : List X) (had : Bool) → new ≡ marked ++ one ∷ []
    → stretches.stretch_has n one ≡ test x → rest ≡ x ∷ left → (stretches.stretches_have marked n || list_any test rest) ≡ had → (stretches.stretches_have new n || list_any test left) ≡ had
marked_more test n marked new one x rest left had pushed same step was =
    ap (λ l. stretches.stretches_have l n || list_any test left) pushed
    ∙ ap (λ b. b || list_any test left) (list_any-append (stretches.stretch_has n) marked (one ∷ []) ∙ ap (λ b. stretches.stretches_have marked n || b) (sym (or_none (stretches.stretch_has n one)) ∙ same))
    ∙ sym (or_join (stretches.stretches_have marked n) (test x) (list_any test left)) ∙ ap (λ l. stretches.stretches_have marked n || list_any test l) (sym step) ∙ was

below_none : (n base : ℕ) (rest more : Bool) → n < base → ((nat_le base n && rest) && more) ≡ false
below_none n base rest more below =
    let no : nat_le base n ≡ false = grind arith in
    ap (λ b. (b && rest) && more) no

-- a number that is marked, and one that is not
unmarked : (here told ended announcing marked : Bool) → here ≡ true → marked ≡ (announcing || ended) → (told && not marked) ≡ ((here && (told && not ended)) && not announcing)
unmarked here told ended announcing marked is marked_is = ap (λ b. told && not b) marked_is ∙ by told ended announcing ∙ ap (λ b. (b && (told && not ended)) && not announcing) (sym is)
  where
    by : (told ended announcing : Bool) → (told && not (announcing || ended)) ≡ ((told && not ended) && not announcing)
    by true true true = refl
    by true true false = refl
    by true false true = refl
    by true false false = refl
    by false ended announcing = refl

announcing_is : (acts : List tellings.TimedAct) (bulletin : Bulletin) → bulletins.IsBulletinOf acts bulletin → (n : ℕ)
    → list_any (λ announcement. nat_eq n announcement.number) bulletin.announced.keys ≡ lacking_spec.is_announcing acts n
announcing_is acts bulletin were n = were.announced (λ announcement. nat_eq n announcement.number)

pub counted_is : (acts : List tellings.TimedAct) (bulletin : Bulletin) (prefix : GuidPrefix) (end from : ℕ) (told marked : List Stretch) → bulletins.IsBulletinOf acts bulletin
    → from ≡ min (max (bulletins.base_by bulletin prefix) 1) layout.END
    → ((n : ℕ) → stretches.stretches_have told n ≡ list_any (bulletins.reaches prefix end n) bulletin.told.entries)
    → ((n : ℕ) → n < layout.END → stretches.stretches_have marked n ≡ lacking_spec.is_marked bulletin n)
    → counts.count_in (λ n. stretches.stretches_have told n && not (stretches.stretches_have marked n)) from layout.END
    ≡ counts.count_in (λ n. lacking_spec.lacks acts prefix end n && not (lacking_spec.is_announcing acts n)) 1 layout.END
counted_is acts bulletin prefix end from told marked were from_is told_is marked_is =
    let base = bulletins.base_by bulletin prefix in
    let low : 1 ≤ from = omega (arith, from_is) in
    let high : from ≤ layout.END = omega (arith, from_is) in
    let has : ℕ → Bool = λ n. lacking_spec.lacks acts prefix end n && not (lacking_spec.is_announcing acts n) in
    let same : counts.count_in (λ n. stretches.stretches_have told n && not (stretches.stretches_have marked n)) from layout.END ≡ counts.count_in has from layout.END =
    count_same (λ n. stretches.stretches_have told n && not (stretches.stretches_have marked n)) has from layout.END
    (λ n onward within.
    let reached : base ≤ n = omega (arith, from_is, onward, within) in
    let here : nat_le base n ≡ true = grind (arith, reached) in
    unmarked (nat_le base n) (stretches.stretches_have told n) (contains nat_cmp bulletin.ended n) (list_any (λ announcement. nat_eq n announcement.number) bulletin.announced.keys) (stretches.stretches_have marked n) here
    (marked_is n within ∙ ap (λ b. list_any (λ announcement. nat_eq n announcement.number) bulletin.announced.keys || b) (sym (any_same (is_at (nat_cmp n)) (nat_eq n) (λ m. unsigned_tied n m) bulletin.ended.keys)))
    ∙ ap (λ b. b && not (list_any (λ announcement. nat_eq n announcement.number) bulletin.announced.keys)) (still_lacks acts bulletin prefix end told were told_is n)
    ∙ ap (λ b. lacking_spec.lacks acts prefix end n && not b) (announcing_is acts bulletin were n)) in
    let none : counts.count_in has 1 from ≡ 0 =
    count_none has 1 from
    (λ n onward below.
    let under : n < base = omega (arith, from_is, onward, below) in
    ap (λ b. b && not (lacking_spec.is_announcing acts n)) (sym (still_lacks acts bulletin prefix end told were told_is n))
    ∙ below_none n base (stretches.stretches_have told n && not (contains nat_cmp bulletin.ended n)) (not (lacking_spec.is_announcing acts n)) under) in
    same ∙ sym (count_split has 1 from layout.END low high ∙ ap (λ k. k + counts.count_in has from layout.END) none ∙ zero_more (counts.count_in has from layout.END))
  where
    zero_more : (k : ℕ) → 0 + k ≡ k
    zero_more k = omega arith

-- ---- all of it

pub listed_is : (acts : List tellings.TimedAct) (bulletin : Bulletin) (prefix : GuidPrefix) (end : ℕ) (told : List Stretch) → bulletins.IsBulletinOf acts bulletin
    → ((n : ℕ) → stretches.stretches_have told n ≡ list_any (bulletins.reaches prefix end n) bulletin.told.entries) → (guid : Guid)
    → list_any (lacking_spec.is_listed told bulletin (bulletins.base_by bulletin prefix) guid) bulletin.announced.keys ≡ lacking_spec.lacks_endpoint acts prefix end guid
listed_is acts bulletin prefix end told were told_is guid =
    any_same (lacking_spec.is_listed told bulletin (bulletins.base_by bulletin prefix) guid) (lacking_spec.is_lacking acts prefix end guid)
    (λ announcement. ap (λ b. tellings.is_guid guid announcement.endpoint && b) (still_lacks acts bulletin prefix end told were told_is announcement.number)) bulletin.announced.keys
    ∙ were.announced (lacking_spec.is_lacking acts prefix end guid)

-- of no acts
pub lacking_nothing : (prefix : GuidPrefix) (end : ℕ) (lacking : Lacking) → lacking.endpoints.items ≡ [] → lacking.unnamed ≡ 0 → lacking_spec.IsLackingOf [] prefix end lacking
unfolding IsStrictlySortedBy
lacking_nothing prefix end lacking none zero_is =
    record {
      ordered = let P : List Guid → Type 0 = λ l. IsStrictlySortedBy guid_order.guid_cmp l in subst P (sym none) tt;
      endpoints = λ guid. ap (list_any (tellings.is_guid guid)) none;
      unnamed = zero_is ∙ sym (count_none (λ n. lacking_spec.lacks [] prefix end n && not (lacking_spec.is_announcing [] n)) 1 layout.END (λ n low high. refl));
    }
