-- Which numbers were asked about and told gone, one act more at a time.
use Rattle.std.proofs.Common.{ℕ, Bool, true, false, cond, ◌≡◌, ◌≤◌, ◌<◌, ◌⊎◌, ◌∙◌, ◌&&◌, ◌||◌, max, min, nat_le, nat_lt, List, Option, sym, ap, subst, inl, inr, arith}
use Rattle.std.specs.Prelude.{◌↔◌}
use Rattle.std.proofs.lemmas.Bool.{cases_lt}
use Rattle.std.proofs.lemmas.Bool.Decides.{nat_tests}
use Rattle.std.specs.BTreeMap.{get}
use Rattle.std.specs.Ordering.{nat_cmp}
use Rattle.rtps_evidence.specs.GoneRanges as gone_ranges
use Rattle.rtps_evidence.specs.Outcomes as outcomes
use Rattle.rtps_evidence.specs.Silences as silences
use Rattle.rtps_evidence.specs.Times as times_spec
use Rattle.rtps_evidence.specs.declared.questioned.Moment.{Moment}
use Rattle.rtps_evidence.specs.declared.questioned.Questioned.{Questioned}

-- ---- numbers told gone in silence, piece by piece

and_no : (b : Bool) → (b && false) ≡ false
and_no b = grind (arith, nat_tests)

or_no : (b : Bool) → (b || false) ≡ b
or_no b = grind (arith, nat_tests)

-- behind a piece of which none is, and which one HEARTBEAT asked about first
pub hushed_more : (q : Questioned) (moment : Moment) (lo at end key asked : ℕ) (old now new : ℕ → Bool) → lo ≤ at → at ≤ end → end ≤ key → ((n : ℕ) → at ≤ n → n < end → silences.IsGone q n → ⊥) → gone_ranges.IsFirstPast q.asked at key asked
    → ((n : ℕ) → new n ≡ (now n || (times_spec.is_long_between moment.times.now.of_datagrams asked moment.datagram && (nat_le at n && nat_lt n end)))) → silences.AreHushed q moment lo at old now → silences.AreHushed q moment lo end old new
hushed_more q moment lo at end key asked old now new on up within left first more so_far = record {
  before = λ n lt. same n (inl (omega arith)) ∙ so_far.before n lt;
  behind = λ n past. same n (inr past) ∙ so_far.behind n (omega arith);
  gone = λ n is. elim (cases_lt n at) [
    | inl lt ↦ same n (inl lt) ∙ so_far.gone n is
    | inr ge ↦ elim (cases_lt n end) [ inl lt ↦ absurd (left n ge lt is) | inr past ↦ same n (inr past) ∙ so_far.gone n is ]
  ];
  hushed = λ n other from to out one. elim (cases_lt n at) [
    | inl lt ↦ same n (inl lt) ∙ so_far.hushed n other from lt out one
    | inr ge ↦
        let here : (nat_le at n && nat_lt n end) ≡ true = grind (arith, nat_tests) in
        let alike : other ≡ asked = one_first n other ge to one in
        more n ∙ ap (λ b. now n || (long && b)) here ∙ ap (λ b. now n || b) (and_yes long) ∙ ap (λ b. b || long) (so_far.behind n ge) ∙ ap (λ a. old n || times_spec.is_long_between moment.times.now.of_datagrams a moment.datagram) (sym alike)
  ];
}
  where
    long : Bool
    long = times_spec.is_long_between moment.times.now.of_datagrams asked moment.datagram

    and_yes : (b : Bool) → (b && true) ≡ b
    and_yes b = grind (arith, nat_tests)

    same : (n : ℕ) → (n < at) ⊎ (end ≤ n) → new n ≡ now n
    same n out =
        let none : (nat_le at n && nat_lt n end) ≡ false = elim out [ inl lt ↦ grind (arith, nat_tests) | inr ge ↦ grind (arith, nat_tests) ] in
        more n ∙ ap (λ b. now n || (long && b)) none ∙ ap (λ b. now n || b) (and_no long) ∙ or_no (now n)

    one_first : (n other : ℕ) → at ≤ n → n < end → silences.IsAskedFirst q n other → other ≡ asked
    one_first n other ge to one = elim (cases_lt one.0 key) [
      | inl lt ↦ absurd (let none = first.least one.0 (let past = one.1.past in omega arith) lt in let some = one.1.here in let no = sym some ∙ none in cc)
      | inr ge' ↦ elim (cases_lt key one.0) [
        | inl lt ↦ absurd (let none = one.1.least key (omega arith) lt in let some = first.here in let no = sym some ∙ none in cc)
        | inr le ↦ let key_is : one.0 ≡ key = omega arith in let both = sym one.1.here ∙ ap (λ k. get nat_cmp q.asked k) key_is ∙ first.here in cc
      ]
    ]

-- ---- what is told gone

-- the numbers of a range are told gone: those that were not answered are, and of those that were asked about again those are silent that were asked about first long ago
pub told_so : (moment : Moment) (old new : Questioned) (n : ℕ) (silence : outcomes.Silence) (lo hi : ℕ) (was is : ℕ → Bool) → new.asked ≡ old.asked → new.once ≡ old.once → new.again ≡ old.again → new.answered ≡ old.answered
    → silences.AreHushed old moment (max lo old.answered) (min hi old.again) was is → (silences.IsGone new n ↔ (silences.IsGone old n ⊎ ((max lo old.answered ≤ n) × (n < hi)))) → silences.IsAt n silence old (was n)
    → silences.IsAt n (cond (nat_le lo n && nat_lt n hi) (outcomes.told_gone moment.times.now.of_datagrams moment.datagram silence) silence) new (is n)
told_so moment old new n silence lo hi was is its_asked its_once its_again its_answered hush gone at = record {
  answered = let le = at.answered in omega (arith, its_once, its_answered, le);
  again = let le = at.again in omega (arith, its_once, its_again, le);
  ends = subst (λ a. gone_ranges.HasNonePast a new.once) (sym its_asked) (subst (λ m. gone_ranges.HasNonePast old.asked m) (sym its_once) at.ends);
  so = elim (cases_lt n lo) [
    | inl lt ↦
        let no : (nat_le lo n && nat_lt n hi) ≡ false = grind (arith, nat_tests) in
        subst (λ b. silences.IsSo n (cond b (outcomes.told_gone times moment.datagram silence) silence) new (is n)) (sym no) (untold (λ range. let low = range.0 in omega arith) (hush.before n (omega arith)) silence at.so)
    | inr ge ↦ elim (cases_lt n hi) [
      | inl lt ↦
          let yes : (nat_le lo n && nat_lt n hi) ≡ true = grind (arith, nat_tests) in
          subst (λ b. silences.IsSo n (cond b (outcomes.told_gone times moment.datagram silence) silence) new (is n)) (sym yes) (told ge lt silence at.so)
      | inr past ↦
          let no : (nat_le lo n && nat_lt n hi) ≡ false = grind (arith, nat_tests) in
          subst (λ b. silences.IsSo n (cond b (outcomes.told_gone times moment.datagram silence) silence) new (is n)) (sym no) (untold (λ range. let high = range.1 in omega arith) (hush.behind n (omega arith)) silence at.so)
    ]
  ];
}
  where
    times : List (Option ℕ)
    times = moment.times.now.of_datagrams

    kept : ((max lo old.answered ≤ n) × (n < hi) → ⊥) → (silences.IsGone old n → ⊥) → silences.IsGone new n → ⊥
    kept out left is = elim (gone.0 is) [ inl there ↦ left there | inr range ↦ out range ]

    settled : (n < old.answered) ⊎ silences.IsGone old n → (n < new.answered) ⊎ silences.IsGone new n
    settled (inl lt) = inl (omega (arith, its_answered, lt))
    settled (inr there) = inr (gone.1 (inl there))

    first : (asked : ℕ) → silences.IsAskedFirst old n asked → silences.IsAskedFirst new n asked
    first asked one = (one.0, subst (λ a. gone_ranges.IsFirstPast a n one.0 asked) (sym its_asked) one.1)

    untold : ((max lo old.answered ≤ n) × (n < hi) → ⊥) → is n ≡ was n → (s : outcomes.Silence) → silences.IsSo n s old (was n) → silences.IsSo n s new (is n)
    untold out same outcomes.Silence.Unasked so = (same ∙ so.0, kept out so.1, let le = so.2 in omega (arith, its_once, le))
    untold out same (outcomes.Silence.Once asked) so = (same ∙ so.0, kept out so.1, (let le = so.2 in omega (arith, its_answered, le)), (let lt = so.3 in omega (arith, its_once, lt)), (let le = so.4 in omega (arith, its_again, le)), first asked so.5)
    untold out same (outcomes.Silence.Again asked) so = (same ∙ so.0, kept out so.1, (let le = so.2 in omega (arith, its_answered, le)), (let lt = so.3 in omega (arith, its_again, lt)), first asked so.4)
    untold out same outcomes.Silence.Answered so = (same ∙ so.0, let lt = so.1 in omega (arith, its_answered, lt))
    untold out same outcomes.Silence.Silent so = (same ∙ so.0, settled so.1)
    untold out same outcomes.Silence.Ended so = (same ∙ so.0, settled so.1)

    now_gone : n < hi → lo ≤ n → old.answered ≤ n → silences.IsGone new n
    now_gone lt ge le = gone.1 (inr (omega arith, lt))

    by_long : (b : Bool) → is n ≡ b → silences.IsGone new n → silences.IsSo n (cond b outcomes.Silence.Silent outcomes.Silence.Ended) new (is n)
    by_long true is_so there = (is_so, inr there)
    by_long false is_so there = (is_so, inr there)

    stays : (n < old.answered) ⊎ silences.IsGone old n → is n ≡ was n
    stays (inl below) = hush.before n (omega arith)
    stays (inr there) = hush.gone n there

    told : lo ≤ n → n < hi → (s : outcomes.Silence) → silences.IsSo n s old (was n) → silences.IsSo n (outcomes.told_gone times moment.datagram s) new (is n)
    told ge lt outcomes.Silence.Unasked so = (hush.behind n (let le = so.2 in let up = at.again in omega arith) ∙ so.0, inr (now_gone lt ge (let le = so.2 in let up = at.answered in omega arith)))
    told ge lt (outcomes.Silence.Once asked) so = (hush.behind n (let le = so.4 in omega arith) ∙ so.0, inr (now_gone lt ge so.2))
    told ge lt (outcomes.Silence.Again asked) so =
        by_long (times_spec.is_long_between times asked moment.datagram)
        (hush.hushed n asked (let low = so.2 in omega arith) (let below = so.3 in omega arith) so.1 so.4 ∙ ap (λ b. b || times_spec.is_long_between times asked moment.datagram) so.0) (now_gone lt ge so.2)
    told ge lt outcomes.Silence.Answered so = (hush.before n (let below = so.1 in omega arith) ∙ so.0, inl (let below = so.1 in omega (arith, its_answered, below)))
    told ge lt outcomes.Silence.Silent so = (stays so.1 ∙ so.0, settled so.1)
    told ge lt outcomes.Silence.Ended so = (stays so.1 ∙ so.0, settled so.1)

-- ---- what is asked about

-- the numbers below an end are asked about
pub asked_so : (old new : Questioned) (n : ℕ) (silence : outcomes.Silence) (end datagram : ℕ) (silent : Bool) → (gone_ranges.HasNonePast old.asked old.once → silences.IsAskedMore old.asked new.asked old.once end datagram) → new.once ≡ max old.once end → new.again ≡ max old.again (min old.once end)
    → new.answered ≡ old.answered → new.gone.by_end ≡ old.gone.by_end → silences.IsAt n silence old silent → silences.IsAt n (cond (nat_lt n end) (outcomes.asked_about datagram silence) silence) new silent
asked_so old new n silence end datagram silent asks its_once its_again its_answered its_gone at = record {
  answered = let le = at.answered in omega (arith, its_once, its_answered, le);
  again = let le = at.again in omega (arith, its_once, its_again, le);
  ends = subst (gone_ranges.HasNonePast new.asked) (sym its_once) more.ends;
  so = elim (cases_lt n end) [
    | inl lt ↦
        let yes : nat_lt n end ≡ true = grind (arith, nat_tests) in
        subst (λ b. silences.IsSo n (cond b (outcomes.asked_about datagram silence) silence) new silent) (sym yes) (below_end lt silence at.so)
    | inr ge ↦
        let no : nat_lt n end ≡ false = grind (arith, nat_tests) in
        subst (λ b. silences.IsSo n (cond b (outcomes.asked_about datagram silence) silence) new silent) (sym no) (past_end ge silence at.so)
  ];
}
  where
    more : silences.IsAskedMore old.asked new.asked old.once end datagram
    more = asks at.ends

    left : (silences.IsGone old n → ⊥) → silences.IsGone new n → ⊥
    left out is = out (subst (λ g. gone_ranges.IsIn g n) its_gone is)

    settled : (n < old.answered) ⊎ silences.IsGone old n → (n < new.answered) ⊎ silences.IsGone new n
    settled (inl lt) = inl (omega (arith, its_answered, lt))
    settled (inr there) = inr (subst (λ g. gone_ranges.IsIn g n) (sym its_gone) there)

    first : (asked : ℕ) → silences.IsAskedFirst old n asked → silences.IsAskedFirst new n asked
    first asked one = (one.0, more.earlier n one.0 asked one.1)

    ended : (s : outcomes.Silence) → (silent ≡ false) × ((n < old.answered) ⊎ silences.IsGone old n) → (silent ≡ false) × ((n < new.answered) ⊎ silences.IsGone new n)
    ended s so = (so.0, settled so.1)

    below_end : n < end → (s : outcomes.Silence) → silences.IsSo n s old silent → silences.IsSo n (outcomes.asked_about datagram s) new silent
    below_end lt outcomes.Silence.Unasked so = (so.0, left so.1, (let from = so.2 in let le = at.answered in omega (arith, its_answered, le)), omega (arith, its_once, lt), (let from = so.2 in let le = at.again in omega (arith, its_again, le)), (end, more.later n so.2 lt))
    below_end lt (outcomes.Silence.Once asked) so = (so.0, left so.1, (let from = so.2 in omega (arith, its_answered, from)), (let below = so.3 in omega (arith, its_again, lt, below)), first asked so.5)
    below_end lt (outcomes.Silence.Again asked) so = (so.0, left so.1, (let from = so.2 in omega (arith, its_answered, from)), (let below = so.3 in omega (arith, its_again, below)), first asked so.4)
    below_end lt outcomes.Silence.Answered so = (so.0, let below = so.1 in omega (arith, its_answered, below))
    below_end lt outcomes.Silence.Silent so = (so.0, settled so.1)
    below_end lt outcomes.Silence.Ended so = ended outcomes.Silence.Ended so

    past_end : end ≤ n → (s : outcomes.Silence) → silences.IsSo n s old silent → silences.IsSo n s new silent
    past_end ge outcomes.Silence.Unasked so = (so.0, left so.1, let from = so.2 in omega (arith, its_once, from))
    past_end ge (outcomes.Silence.Once asked) so = (so.0, left so.1, (let from = so.2 in omega (arith, its_answered, from)), (let below = so.3 in omega (arith, its_once, below)), (let le = so.4 in omega (arith, its_again, le)), first asked so.5)
    past_end ge (outcomes.Silence.Again asked) so = (so.0, left so.1, (let from = so.2 in omega (arith, its_answered, from)), (let below = so.3 in omega (arith, its_again, below)), first asked so.4)
    past_end ge outcomes.Silence.Answered so = (so.0, let below = so.1 in omega (arith, its_answered, below))
    past_end ge outcomes.Silence.Silent so = (so.0, settled so.1)
    past_end ge outcomes.Silence.Ended so = ended outcomes.Silence.Ended so

-- ---- at the end

-- a number is among those told gone in silence exactly where the walk ends so
pub silent_kept : (n : ℕ) (silence : outcomes.Silence) (q : Questioned) (silent : Bool) → silences.IsSo n silence q silent → silent ≡ outcomes.is_silent silence
silent_kept n outcomes.Silence.Unasked q silent so = so.0
silent_kept n (outcomes.Silence.Once asked) q silent so = so.0
silent_kept n (outcomes.Silence.Again asked) q silent so = so.0
silent_kept n outcomes.Silence.Answered q silent so = so.0
silent_kept n outcomes.Silence.Silent q silent so = so.0
silent_kept n outcomes.Silence.Ended q silent so = so.0
