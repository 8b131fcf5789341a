-- The datagrams that stand in charts, each once and in rising order, give what all datagrams give that are among them.
use Rattle.std.proofs.Common.{◌≡◌, ◌+◌, ◌-◌, ◌<◌, ◌≤◌, ◌++◌, ◌∷◌, [], ◌∙◌, ◌||◌, ◌==◌, ◌⊎◌, ℕ, zero, suc, List, Bool, true, false, Option, None, Some, ap, ap₂, arith, cond, filter, flat_map, get_or, inl, inr, length, nat_lt, refl, subst, sym}
use Rattle.std.proofs.lemmas.Bool.{cases_eq, cases_lt, eq-eqb, ne_eqb}
use Rattle.std.proofs.lemmas.Cmp.{ranked}
use Rattle.std.proofs.lemmas.List.{get_or_past}
use Rattle.std.proofs.lemmas.List.Concat.{flat_map-append}
use Rattle.std.proofs.lemmas.Map.Keys.{sorted_from_strictly_increasing, sorted_head, sorted_tail}
use Rattle.std.specs.List.{dedup, dedup_from, range_with_len}
use Rattle.std.specs.List.Sorted.{IsStrictlyIncreasing, IsStrictlySortedBy}
use Rattle.std.specs.Ordering.{MatchOrdering, nat_cmp}
use Rattle.json.specs.Json.{Json}
use Rattle.json.specs.Tree.{json_tokens}
use Rattle.rtps_evidence.specs.Times as times_spec
use Rattle.rtps_lines.specs.Lines as lines
use Rattle.rtps_page.specs.ChartTimes as chart_times

-- ---- what is kept of numbers

twice : (a b : Bool) → (a || b) ≡ (a || (a || b))
twice true b = refl
twice false b = refl

-- a number is among what is kept of one and what follows
among_from : (number kept : ℕ) (xs : List ℕ) → chart_times.is_among (dedup_from (λ a b. a == b) kept xs) number ≡ chart_times.is_among (kept ∷ xs) number
among_from number kept [] = refl
among_from number kept (x ∷ xs) = go (cases_eq x kept) (among_from number kept xs) (among_from number x xs)
  where
    equal : ℕ → ℕ → Bool
    equal a b = a == b

    chosen : Bool → Bool
    chosen b = chart_times.is_among (cond b (dedup_from equal kept xs) (kept ∷ dedup_from equal x xs)) number

    go : (x ≡ kept) ⊎ (x ≡ kept → ⊥) → chart_times.is_among (dedup_from equal kept xs) number ≡ chart_times.is_among (kept ∷ xs) number → chart_times.is_among (dedup_from equal x xs) number ≡ chart_times.is_among (x ∷ xs) number
        → chosen (x == kept) ≡ chart_times.is_among (kept ∷ x ∷ xs) number
    go (inl e) same other =
        ap chosen (eq-eqb x kept e) ∙ same ∙ twice (number == kept) (chart_times.is_among xs number) ∙ ap (λ k. (number == kept) || ((number == k) || chart_times.is_among xs number)) (sym e)
    go (inr ne) same other = ap chosen (ne_eqb x kept ne) ∙ ap (λ b. (number == kept) || b) other

pub among_dedup : (number : ℕ) (xs : List ℕ) → chart_times.is_among (dedup (λ a b. a == b) xs) number ≡ chart_times.is_among xs number
among_dedup number [] = refl
among_dedup number (x ∷ xs) = among_from number x xs

-- ---- numbers that rise

-- they rise from a number on
abbrev Rise : ℕ → List ℕ → Type 0
Rise from [] = Unit {0}
Rise from (n ∷ ns) = (from ≤ n) × Rise (n + 1) ns

rise_behind : (n : ℕ) (ns : List ℕ) → IsStrictlySortedBy nat_cmp (n ∷ ns) → Rise (n + 1) ns
rise_behind n [] h = tt
rise_behind n (m ∷ ms) h =
    let below : n < m = subst (λ r. MatchOrdering r (n < m) (n ≡ m) (m < n)) (sorted_head nat_cmp n (m ∷ ms) h).0 (ranked n m (nat_cmp n m) refl) in
    (omega (arith, below), rise_behind m ms (sorted_tail nat_cmp n (m ∷ ms) h))

rise_all : (ns : List ℕ) → IsStrictlySortedBy nat_cmp ns → Rise 0 ns
rise_all [] h = tt
rise_all (n ∷ ns) h = (omega arith, rise_behind n ns h)

none_below : (n from : ℕ) (ns : List ℕ) → n < from → Rise from ns → chart_times.is_among ns n ≡ false
none_below n from [] less rise = refl
none_below n from (m ∷ ms) less rise =
    ap₂ (λ a b. a || b) (ne_eqb n m (λ e. omega (arith, e, less, rise.0))) (none_below n (m + 1) ms (omega (arith, less, rise.0)) rise.1)

nothing_past : {A : Type 0} (f : ℕ → List A) (end : ℕ) → ((k : ℕ) → end ≤ k → f k ≡ []) → (from : ℕ) (ns : List ℕ) → end ≤ from → Rise from ns → flat_map f ns ≡ []
nothing_past f end none from [] low rise = refl
nothing_past f end none from (m ∷ ms) low rise =
    ap₂ (λ a b. a ++ b) (none m (omega (arith, low, rise.0))) (nothing_past f end none (m + 1) ms (omega (arith, low, rise.0)) rise.1)

rising_give : {A : Type 0} (f : ℕ → List A) (has : ℕ → Bool) (n from : ℕ) (ns : List ℕ) → Rise from ns → ((k : ℕ) → from ≤ k → has k ≡ chart_times.is_among ns k)
    → ((k : ℕ) → from + n ≤ k → f k ≡ []) → flat_map f ns ≡ flat_map f (filter has (range_with_len from n))
rising_give f has zero from ns rise same none = nothing_past f from (λ k low. none k (omega (arith, low))) from ns (omega arith) rise
rising_give f has (suc n) from [] rise same none =
    let rest = filter has (range_with_len (from + 1) n) in
    rising_give f has n (from + 1) [] rise (λ k low. same k (omega (arith, low))) (λ k low. none k (omega (arith, low)))
    ∙ ap (λ b. flat_map f (cond b (from ∷ rest) rest)) (sym (same from (omega arith)))
rising_give f has (suc n) from (m ∷ ms) rise same none =
    go (cases_lt from m)
    (λ less.
    rising_give f has n (from + 1) (m ∷ ms) (omega (arith, less), rise.1) (λ k low. same k (omega (arith, low))) (λ k low. none k (omega (arith, low))))
    (λ e.
    rising_give f has n (from + 1) ms (subst (λ a. Rise (a + 1) ms) (sym e) rise.1)
    (λ k above. same k (omega (arith, above)) ∙ ap (λ b. b || chart_times.is_among ms k) (ne_eqb k m (λ is. omega (arith, is, e, above)))) (λ k above. none k (omega (arith, above))))
  where
    rest : List ℕ
    rest = filter has (range_with_len (from + 1) n)

    go : (from < m) ⊎ (m ≤ from) → (from < m → flat_map f (m ∷ ms) ≡ flat_map f rest) → (from ≡ m → flat_map f ms ≡ flat_map f rest)
        → flat_map f (m ∷ ms) ≡ flat_map f (cond (has from) (from ∷ rest) rest)
    go (inl less) all behind =
        all less
        ∙ ap (λ b. flat_map f (cond b (from ∷ rest) rest)) (sym (same from (omega arith) ∙ none_below from (from + 1) (m ∷ ms) (omega arith) (omega (arith, less), rise.1)))
    go (inr low) all behind =
        let e : from ≡ m = omega (arith, low, rise.0) in
        ap₂ (λ a b. f a ++ b) (sym e) (behind e)
        ∙ ap (λ b. flat_map f (cond b (from ∷ rest) rest)) (sym (same from (omega arith) ∙ ap (λ b. b || chart_times.is_among ms from) (eq-eqb from m e)))

-- ---- the seconds of datagrams

no_second : (start time : Option ℕ) → time ≡ None → times_spec.second_of start time ≡ None
no_second None time e = refl
no_second (Some start) time e = ap (times_spec.second_of (Some start)) e

either_none : (b : Bool) (time : Option ℕ) → time ≡ None → cond b time None ≡ None
either_none true time e = e
either_none false time e = refl

past_times : (times : times_spec.TimesValue) (datagram : ℕ) → length times.of_datagrams < datagram → lines.second_in times datagram ≡ None
past_times times datagram past =
    no_second times.start (times_spec.time_of times.of_datagrams datagram)
    (either_none (nat_lt 0 datagram) (get_or times.of_datagrams (datagram - 1) None) (get_or_past times.of_datagrams (datagram - 1) None (omega (arith, past))))

flat_twice : {A B C : Type 0} (f : A → List B) (g : B → List C) (xs : List A) → flat_map (λ x. flat_map g (f x)) xs ≡ flat_map g (flat_map f xs)
flat_twice f g [] = refl
flat_twice f g (x ∷ xs) = ap (λ l. flat_map g (f x) ++ l) (flat_twice f g xs) ∙ sym (flat_map-append g (f x) (flat_map f xs))

first_none : (f : ℕ → List Json) (has : Bool) (xs : List ℕ) → f 0 ≡ [] → flat_map f (cond has (0 ∷ xs) xs) ≡ flat_map f xs
first_none f true xs none = ap (λ l. l ++ flat_map f xs) none
first_none f false xs none = refl

-- the tokens of the times of datagrams that rise, and that are those that are shown
pub times_tokens : (times : times_spec.TimesValue) (shown ns : List ℕ) → IsStrictlyIncreasing ns → ((n : ℕ) → chart_times.is_among ns n ≡ chart_times.is_among shown n)
    → flat_map (λ datagram. flat_map json_tokens (chart_times.time_of_json times datagram)) ns ≡ flat_map json_tokens (chart_times.times_json times shown)
times_tokens times shown ns rising same =
    let f : ℕ → List Json = chart_times.time_of_json times in
    let frame : ℕ → Option ℕ = times_spec.frame_of times.frames in
    let size = length times.of_datagrams in
    let all = rising_give f (chart_times.is_among shown) (suc size) 0 ns (rise_all ns (sorted_from_strictly_increasing ns rising)) (λ k low. sym (same k))
    (λ k past. ap (chart_times.time_json k (frame k)) (past_times times k (omega (arith, past)))) in
    flat_twice f json_tokens ns
    ∙ ap (flat_map json_tokens) (all ∙ first_none f (chart_times.is_among shown 0) (filter (chart_times.is_among shown) (range_with_len 1 size)) (ap (chart_times.time_json 0 (frame 0)) (no_second times.start (times_spec.time_of times.of_datagrams 0) refl)))
