-- One act more about a built-in writer of endpoints.
use Rattle.std.proofs.Common.{◌≡◌, ◌∙◌, ℕ, Bool, true, false, ◌||◌, ◌&&◌, List, [], ◌∷◌, ◌++◌, Option, Some, None, ap, arith, cond, max, min, nat_le, nat_lt, refl, sym, unwrap_or}
use Rattle.std.specs.BTreeMap.{is_at}
use Rattle.std.specs.List.{list_any}
use Rattle.std.proofs.lemmas.List.Folds.{list_any-append}
use Rattle.rtps_ids.specs.declared.identity.GuidPrefix.{GuidPrefix}
use Rattle.std.proofs.lemmas.Map.Text.{is_eq-slice_cmp}
use Rattle.std.proofs.lemmas.Map.Views.{tells_apart}
use Rattle.rtps_receiver.specs.Speech as speech
use Rattle.rtps_receiver.specs.Values as values
use Rattle.rtps_known.specs.Bulletins as bulletins
use Rattle.rtps_known.specs.Tellings as tellings
use Rattle.rtps_known.specs.declared.telling.Telling.{Telling}
use Rattle.rtps_known.proofs.BoolLemmas.{and_none, or_none}
use Rattle.rtps_known.proofs.OrderLemmas.{exact_prefixes}

-- what one act more passes
pub one_more : (acts : List tellings.TimedAct) (timed : tellings.TimedAct) (test : tellings.TimedAct → Bool) (old new : Bool) → new ≡ (old || test timed) → old ≡ list_any test acts
    → new ≡ list_any test (acts ++ timed ∷ [])
one_more acts timed test old new is was =
    is ∙ ap (λ b. b || test timed) was ∙ ap (λ b. list_any test acts || b) (or_none (test timed)) ∙ sym (list_any-append test acts (timed ∷ []))

-- an act of which nobody knows when it came
pub untimed : (acts : List tellings.TimedAct) (act : values.ActValue) (time : Option ℕ) (kept : List (Telling × ℕ)) → time ≡ None → bulletins.AreToldBy acts kept
    → bulletins.AreToldBy (acts ++ (record { act = act; time = time }) ∷ []) kept
untimed acts act time kept none were prefix end n =
    one_more acts (record { act = act; time = time }) (tellings.tells_until prefix end n) (list_any (bulletins.reaches prefix end n) kept) (list_any (bulletins.reaches prefix end n) kept)
    (or_none (list_any (bulletins.reaches prefix end n) kept)
    ∙ ap (λ b. list_any (bulletins.reaches prefix end n) kept || b)
    (sym (ap (λ t. tellings.is_to act.dest prefix && (tellings.tells act.body n && tellings.is_until end t)) none ∙ ap (λ b. tellings.is_to act.dest prefix && b) (and_none (tellings.tells act.body n)) ∙ and_none (tellings.is_to act.dest prefix))))
    (were prefix end n)

and_join : (a b c : Bool) → (a && b && c) ≡ (a && (b && c))
and_join true b c = refl
and_join false b c = refl

-- an act that came then
pub timed_more : (acts : List tellings.TimedAct) (act : values.ActValue) (time : Option ℕ) (came : ℕ) (telling : Telling) (old new : List (Telling × ℕ)) → time ≡ Some came
    → telling.dest ≡ act.dest → ((n : ℕ) → (nat_le telling.lo n && nat_lt n telling.hi) ≡ tellings.tells act.body n)
    → ((prefix : GuidPrefix) (end n : ℕ) → list_any (bulletins.reaches prefix end n) new ≡ (list_any (bulletins.reaches prefix end n) old || bulletins.reaches prefix end n (telling, came)))
    → bulletins.AreToldBy acts old → bulletins.AreToldBy (acts ++ (record { act = act; time = time }) ∷ []) new
timed_more acts act time came telling old new some dest numbers more were prefix end n =
    one_more acts (record { act = act; time = time }) (tellings.tells_until prefix end n) (list_any (bulletins.reaches prefix end n) old) (list_any (bulletins.reaches prefix end n) new)
    (more prefix end n
    ∙ ap (λ b. list_any (bulletins.reaches prefix end n) old || b)
    (and_join (tellings.is_to telling.dest prefix) (nat_le telling.lo n && nat_lt n telling.hi) (nat_le came end)
    ∙ ap (λ d. tellings.is_to d prefix && ((nat_le telling.lo n && nat_lt n telling.hi) && nat_le came end)) dest
    ∙ ap (λ b. tellings.is_to act.dest prefix && (b && nat_le came end)) (numbers n)
    ∙ ap (λ t. tellings.is_to act.dest prefix && (tellings.tells act.body n && tellings.is_until end t)) (sym some)))
    (were prefix end n)

-- ---- the earlier of two times, and the greater of two bases

nat_le_min : (a b end : ℕ) → nat_le (min a b) end ≡ (nat_le a end || nat_le b end)
nat_le_min a b end = grind arith

nat_lt_max : (n a b : ℕ) → nat_lt n (max a b) ≡ (nat_lt n a || nat_lt n b)
nat_lt_max n a b = grind arith

and_or : (a b c : Bool) → (a && (b || c)) ≡ ((a && b) || (a && c))
and_or true b c = refl
and_or false b c = refl

pub least_reaches : (prefix : GuidPrefix) (end n : ℕ) (telling : Telling) (was time w : ℕ) → w ≡ min was time
    → bulletins.reaches prefix end n (telling, w) ≡ (bulletins.reaches prefix end n (telling, was) || bulletins.reaches prefix end n (telling, time))
least_reaches prefix end n telling was time w least =
    ap (λ t. bulletins.reaches prefix end n (telling, t)) least ∙ ap (λ b. bulletins.has_number prefix n telling && b) (nat_le_min was time end) ∙ and_or (bulletins.has_number prefix n telling) (nat_le was end) (nat_le time end)

-- the base of a participant after one more
pub base_more : (old new : GuidPrefix → Option ℕ) (source : GuidPrefix) (base w : ℕ) → w ≡ max (unwrap_or (old source) 0) base
    → ((prefix : GuidPrefix) → new prefix ≡ cond (is_at (bulletins.prefix_cmp source) prefix) (Some w) (old prefix)) → (prefix : GuidPrefix) (n : ℕ)
    → nat_lt n (unwrap_or (new prefix) 0) ≡ (nat_lt n (unwrap_or (old prefix) 0) || (speech.is_prefix source prefix && nat_lt n base))
base_more old new source base w greatest updates prefix n =
    ap (λ o. nat_lt n (unwrap_or o 0)) (updates prefix) ∙ by (is_at (bulletins.prefix_cmp source) prefix) refl
    ∙ ap (λ b. nat_lt n (unwrap_or (old prefix) 0) || (b && nat_lt n base)) (is_eq-slice_cmp source.0 prefix.0)
  where
    by : (same : Bool) → is_at (bulletins.prefix_cmp source) prefix ≡ same
        → nat_lt n (unwrap_or (cond same (Some w) (old prefix)) 0) ≡ (nat_lt n (unwrap_or (old prefix) 0) || (same && nat_lt n base))
    by true e =
        let one : source ≡ prefix = tells_apart exact_prefixes source prefix e in
        ap (nat_lt n) greatest ∙ nat_lt_max n (unwrap_or (old source) 0) base ∙ ap (λ p. nat_lt n (unwrap_or (old p) 0) || nat_lt n base) one
    by false e = or_none (nat_lt n (unwrap_or (old prefix) 0))

pub none_less : (n : ℕ) → n ≡ max 0 n
none_less n = omega arith
