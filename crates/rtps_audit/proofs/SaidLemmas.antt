-- What stands in the first datagrams is the beginning of what stands in all.
use Rattle.std.proofs.Common.{◌≡◌, ◌∙◌, ℕ, zero, suc, pos, ◌+◌, ◌-◌, ◌<◌, ◌≤◌, Bool, true, false, cond, nat_lt, append-nil, drop, filter, get_or, length, map, take, List, [], ◌∷◌, ◌++◌, Option, Some, None, refl, sym, ap, subst, arith, inl, inr}
use Rattle.std.specs.List.{All, cons_option}
use Rattle.std.specs.List.Sorted.{IsNonDecreasingBy}
use Rattle.std.proofs.lemmas.Bool.{cases_lt}
use Rattle.std.proofs.lemmas.Bool.Decides.{nat_tests}
use Rattle.std.proofs.lemmas.List.{take-append-drop, take_more}
use Rattle.std.proofs.lemmas.List.Elements.{filter-append}
use Rattle.rtps_wire.specs.Reading as reading
use Rattle.rtps_discovery.specs.declared.matching.Pair.{Pair}
use Rattle.rtps_receiver.specs.Acts as acts
use Rattle.rtps_receiver.specs.Values as values
use Rattle.rtps_audit.specs.Placed as placed_spec
use Rattle.rtps_audit.specs.Delivered as delivered
use Rattle.rtps_audit.specs.Laws as laws
use Rattle.rtps_audit.specs.Said as said
use Rattle.rtps_audit.specs.Speech as speech
use Rattle.rtps_audit.specs.declared.answer.Answer.{Answer}
use Rattle.rtps_audit.specs.declared.placed.Placed.{Placed}
use Rattle.rtps_audit.proofs.PlacedActs.{answers_in_order, kept_in_order}

abbrev pub is_below : {X : Type 0} → (X → ℕ) → ℕ → X → Bool
is_below key d x = nat_lt (key x) d

fails : (n d : ℕ) → d ≤ n → nat_lt n d ≡ false
fails n d le = grind (arith, nat_tests)

pub not_before : (n d : ℕ) → nat_lt n d ≡ false → d ≤ n
not_before n d fails_it = elim (cases_lt n d) [
  | inl lt ↦ absurd (let yes : nat_lt n d ≡ true = grind (arith, nat_tests) in let never : true ≡ false = sym yes ∙ fails_it in cc)
  | inr ge ↦ ge
]

none_kept : {X : Type 0} (key : X → ℕ) (d : ℕ) (xs : List X) → All (λ x. d ≤ key x) xs → filter (is_below key d) xs ≡ []
none_kept key d [] all = refl
none_kept key d (x ∷ xs) all =
    let here : d ≤ key x = all 0 x (omega arith) in
    ap (λ b. cond b (x ∷ filter (is_below key d) xs) (filter (is_below key d) xs)) (fails (key x) d here) ∙ none_kept key d xs (λ i e lt. all (suc i) e (omega arith))

rest_fails : {X : Type 0} (key : X → ℕ) (d k : ℕ) (xs : List X) → IsNonDecreasingBy key xs → ((e : X) → k < length xs → d ≤ key (get_or xs k e)) → filter (is_below key d) (drop k xs) ≡ []
rest_fails key d zero [] rises next = refl
rest_fails key d (suc k) [] rises next = refl
rest_fails key d zero (x ∷ xs) rises next =
    let first : d ≤ key x = next x (omega arith) in
    none_kept key d (x ∷ xs) (λ i e lt. let later : key x ≤ key (get_or (x ∷ xs) i e) = rises 0 i e (omega arith) lt in omega arith)
rest_fails key d (suc k) (x ∷ xs) rises next = rest_fails key d k xs (λ i j e le lt. rises (suc i) (suc j) e (omega arith) (omega arith)) (λ e lt. next e (omega arith))

-- a beginning up to the first with a key that is not below it has all whose keys are
beginning : {X : Type 0} (key : X → ℕ) (d k : ℕ) (xs : List X) → IsNonDecreasingBy key xs → filter (is_below key d) (take k xs) ≡ take k xs → ((e : X) → k < length xs → d ≤ key (get_or xs k e))
    → take k xs ≡ filter (is_below key d) xs
beginning key d k xs rises kept next =
    sym (ap (filter (is_below key d)) (sym (take-append-drop k xs)) ∙ filter-append (is_below key d) (take k xs) (drop k xs) ∙ ap (λ l. filter (is_below key d) (take k xs) ++ l) (rest_fails key d k xs rises next)
    ∙ append-nil (filter (is_below key d) (take k xs)) ∙ kept)

-- one more that passes
pub one_kept : {X : Type 0} (test : X → Bool) (xs : List X) (i : ℕ) (d : X) → i < length xs → test (get_or xs i d) ≡ true → filter test (take i xs) ≡ take i xs → filter test (take (i + 1) xs) ≡ take (i + 1) xs
one_kept test xs i d lt is kept =
    ap (filter test) (take_more xs i d lt) ∙ filter-append test (take i xs) (get_or xs i d ∷ [])
    ∙ ap (λ l. l ++ filter test (get_or xs i d ∷ [])) kept ∙ ap (λ b. take i xs ++ cond b (get_or xs i d ∷ []) []) is ∙ sym (take_more xs i d lt)

map_filter : {X Y : Type 0} (v : X → Y) (test : Y → Bool) (xs : List X) → map v (filter (λ x. test (v x)) xs) ≡ filter test (map v xs)
map_filter v test [] = refl
map_filter {X} {Y} v test (x ∷ xs) = by (test (v x)) (map_filter v test xs)
  where
    by : (b : Bool) → map v (filter (λ y. test (v y)) xs) ≡ filter test (map v xs) → map v (cond b (x ∷ filter (λ y. test (v y)) xs) (filter (λ y. test (v y)) xs)) ≡ cond b (v x ∷ filter test (map v xs)) (filter test (map v xs))
    by true h = ap (λ l. v x ∷ l) h
    by false h = h

filter_swap : {X : Type 0} (one other : X → Bool) (xs : List X) → filter one (filter other xs) ≡ filter other (filter one xs)
filter_swap one other [] = refl
filter_swap {X} one other (x ∷ xs) = by (one x) (other x) refl refl (filter_swap one other xs)
  where
    by : (a b : Bool) → one x ≡ a → other x ≡ b → filter one (filter other xs) ≡ filter other (filter one xs)
        → filter one (cond b (x ∷ filter other xs) (filter other xs)) ≡ filter other (cond a (x ∷ filter one xs) (filter one xs))
    by true true e f h = ap (λ c. cond c (x ∷ filter one (filter other xs)) (filter one (filter other xs))) e ∙ ap (λ l. x ∷ l) h ∙ sym (ap (λ c. cond c (x ∷ filter other (filter one xs)) (filter other (filter one xs))) f)
    by true false e f h = h ∙ sym (ap (λ c. cond c (x ∷ filter other (filter one xs)) (filter other (filter one xs))) f)
    by false true e f h = ap (λ c. cond c (x ∷ filter one (filter other xs)) (filter one (filter other xs))) e ∙ h
    by false false e f h = h

-- ---- the acts of the first datagrams

all_before : (d datagram : ℕ) (acts : List values.ActValue) → datagram < d → filter (λ (placed : placed_spec.PlacedValue). nat_lt placed.datagram d) (placed_spec.placed_at datagram acts) ≡ placed_spec.placed_at datagram acts
all_before d datagram [] lt = refl
all_before d datagram (act ∷ acts) lt =
    let yes : nat_lt datagram d ≡ true = grind (arith, nat_tests) in
    let x : placed_spec.PlacedValue = record { datagram = datagram; act = act } in
    ap (λ b. cond b (x ∷ filter (λ (placed : placed_spec.PlacedValue). nat_lt placed.datagram d) (placed_spec.placed_at datagram acts)) (filter (λ (placed : placed_spec.PlacedValue). nat_lt placed.datagram d) (placed_spec.placed_at datagram acts))) yes ∙ ap (λ l. x ∷ l) (all_before d datagram acts lt)

at_least : (low datagram : ℕ) (acts : List values.ActValue) (xs : List placed_spec.PlacedValue) → low ≤ datagram → ((i : ℕ) (e : placed_spec.PlacedValue) → i < length xs → low ≤ (get_or xs i e).datagram)
    → (i : ℕ) (e : placed_spec.PlacedValue) → i < length (placed_spec.placed_at datagram acts ++ xs) → low ≤ (get_or (placed_spec.placed_at datagram acts ++ xs) i e).datagram
at_least low datagram [] xs le all i e lt = all i e lt
at_least low datagram (act ∷ acts) xs le all zero e lt = le
at_least low datagram (act ∷ acts) xs le all (suc i) e lt = at_least low datagram acts xs le all i e (omega arith)

-- no act stands before the first datagram
none_earlier : (low before : ℕ) (recording : List (List values.ActValue)) → low ≤ before + 1 → (i : ℕ) (e : placed_spec.PlacedValue) → i < length (placed_spec.placed_behind before recording) → low ≤ (get_or (placed_spec.placed_behind before recording) i e).datagram
none_earlier low before [] le i e lt = absurd (omega arith)
none_earlier low before (acts ∷ recording) le i e lt = at_least low (before + 1) acts (placed_spec.placed_behind (before + 1) recording) le (none_earlier low (before + 1) recording (omega arith)) i e lt

first_datagrams : (d low : ℕ) (recording : List (List values.ActValue)) → filter (λ (placed : placed_spec.PlacedValue). nat_lt placed.datagram d) (placed_spec.placed_behind low recording) ≡ placed_spec.placed_behind low (take (d - 1 - low) recording)
first_datagrams d low [] = none (d - 1 - low)
  where
    none : (n : ℕ) → [] ≡ placed_spec.placed_behind low (take n [])
    none zero = refl
    none (suc n) = refl
first_datagrams d low (acts ∷ recording) = elim (cases_lt (low + 1) d) [
  | inl lt ↦
      let more : d - 1 - low ≡ suc (d - 1 - (low + 1)) = omega arith in
      filter-append (λ (placed : placed_spec.PlacedValue). nat_lt placed.datagram d) (placed_spec.placed_at (low + 1) acts) (placed_spec.placed_behind (low + 1) recording)
      ∙ ap (λ l. l ++ filter (λ (placed : placed_spec.PlacedValue). nat_lt placed.datagram d) (placed_spec.placed_behind (low + 1) recording)) (all_before d (low + 1) acts lt)
      ∙ ap (λ l. placed_spec.placed_at (low + 1) acts ++ l) (first_datagrams d (low + 1) recording)
      ∙ sym (ap (λ n. placed_spec.placed_behind low (take n (acts ∷ recording))) more)
  | inr ge ↦
      let none : d - 1 - low ≡ 0 = omega arith in
      none_kept (λ (placed : placed_spec.PlacedValue). placed.datagram) d (placed_spec.placed_behind low (acts ∷ recording)) (none_earlier d low (acts ∷ recording) ge)
      ∙ sym (ap (λ n. placed_spec.placed_behind low (take n (acts ∷ recording))) none)
]

-- behind no datagram
first_of_all : (d : ℕ) (recording : List (List values.ActValue)) → filter (λ (placed : placed_spec.PlacedValue). nat_lt placed.datagram d) (placed_spec.placed_in recording) ≡ placed_spec.placed_in (take (d - 1) recording)
first_of_all d recording = first_datagrams d 0 recording ∙ (let same : d - 1 - 0 ≡ d - 1 = omega arith in ap (λ n. placed_spec.placed_in (take n recording)) same)

answers_first : (pair : Pair) (d : ℕ) (placed : List placed_spec.PlacedValue) → filter (λ (answer : Answer). nat_lt answer.datagram d) (placed_spec.answers_among pair placed) ≡ placed_spec.answers_among pair (filter (λ (at : placed_spec.PlacedValue). nat_lt at.datagram d) placed)
answers_first pair d [] = refl
answers_first pair d (x ∷ xs) = by (nat_lt x.datagram d) (speech.base_for pair.writer pair.reader x.act) refl refl (answers_first pair d xs)
  where
    some : List Answer
    some = filter (λ (answer : Answer). nat_lt answer.datagram d) (placed_spec.answers_among pair xs)

    rest : List placed_spec.PlacedValue
    rest = filter (λ (at : placed_spec.PlacedValue). nat_lt at.datagram d) xs

    by : (b : Bool) (base : Option ℕ) → nat_lt x.datagram d ≡ b → speech.base_for pair.writer pair.reader x.act ≡ base → some ≡ placed_spec.answers_among pair rest
        → filter (λ (answer : Answer). nat_lt answer.datagram d) (cons_option (placed_spec.answer_at x.datagram x.act.at base) (placed_spec.answers_among pair xs)) ≡ placed_spec.answers_among pair (cond b (x ∷ rest) rest)
    by true None e f h = h ∙ sym (ap (λ o. cons_option (placed_spec.answer_at x.datagram x.act.at o) (placed_spec.answers_among pair rest)) f)
    by false None e f h = h
    by true (Some base) e f h =
        let answer : Answer = record { datagram = x.datagram; at = x.act.at; base = pos base } in
        ap (λ c. cond c (cons_option (placed_spec.answer_at x.datagram x.act.at (Some base)) some) some) e
        ∙ ap (λ l. cons_option (placed_spec.answer_at x.datagram x.act.at (Some base)) l) h
        ∙ sym (ap (λ o. cons_option (placed_spec.answer_at x.datagram x.act.at o) (placed_spec.answers_among pair rest)) f)
    by false (Some base) e f h = ap (λ c. cond c (cons_option (placed_spec.answer_at x.datagram x.act.at (Some base)) some) some) e ∙ h

-- ---- so the beginnings are what the first datagrams have

pub acts_first : (keeps : placed_spec.PlacedValue → Bool) (d k : ℕ) (acts : List Placed) (recording : List (List values.ActValue)) → map placed_spec.placed_value acts ≡ filter keeps (placed_spec.placed_in recording)
    → filter (λ (at : Placed). nat_lt at.datagram d) (take k acts) ≡ take k acts → ((e : Placed) → k < length acts → d ≤ (get_or acts k e).datagram)
    → map placed_spec.placed_value (take k acts) ≡ filter keeps (placed_spec.placed_in (take (d - 1) recording))
acts_first keeps d k acts recording are kept next =
    ap (map placed_spec.placed_value) (beginning (λ (at : Placed). at.datagram) d k acts (kept_in_order recording keeps acts are) kept next)
    ∙ map_filter placed_spec.placed_value (λ (at : placed_spec.PlacedValue). nat_lt at.datagram d) acts
    ∙ ap (filter (λ (at : placed_spec.PlacedValue). nat_lt at.datagram d)) are
    ∙ filter_swap (λ (at : placed_spec.PlacedValue). nat_lt at.datagram d) keeps (placed_spec.placed_in recording)
    ∙ ap (filter keeps) (first_of_all d recording)

pub answers_first_until : (pair : Pair) (d k : ℕ) (answers : List Answer) (recording : List (List values.ActValue)) → answers ≡ placed_spec.answers_among pair (placed_spec.placed_in recording)
    → filter (λ (at : Answer). nat_lt at.datagram d) (take k answers) ≡ take k answers → ((e : Answer) → k < length answers → d ≤ (get_or answers k e).datagram)
    → take k answers ≡ placed_spec.answers_among pair (placed_spec.placed_in (take (d - 1) recording))
answers_first_until pair d k answers recording are kept next =
    beginning (λ (at : Answer). at.datagram) d k answers (subst (IsNonDecreasingBy (λ (at : Answer). at.datagram)) (sym are) (answers_in_order pair recording)) kept next
    ∙ ap (filter (λ (at : Answer). nat_lt at.datagram d)) are
    ∙ answers_first pair d (placed_spec.placed_in recording)
    ∙ ap (placed_spec.answers_among pair) (first_of_all d recording)

-- ---- of octets

take_mapped : {X Y : Type 0} (f : X → Y) (n : ℕ) (xs : List X) → map f (take n xs) ≡ take n (map f xs)
take_mapped f zero xs = refl
take_mapped f (suc n) [] = refl
take_mapped f (suc n) (x ∷ xs) = ap (λ l. f x ∷ l) (take_mapped f n xs)

pub first_datagrams_say_the_same : said.FirstDatagramsSayTheSame
first_datagrams_say_the_same None recording = refl
first_datagrams_say_the_same (Some datagram) recording = take_mapped (λ octets. acts.acts_of (reading.reading_of octets)) (datagram - 1) recording

pub first_datagrams_decide : laws.FirstDatagramsDecide
first_datagrams_decide from writer reader until recording verdict =
    let same : speech.speech_by writer reader (said.datagrams_until until (speech.acts_by_datagram recording)) ≡ speech.speech_of writer reader (said.datagrams_until until recording) =
    sym (ap (speech.speech_by writer reader) (first_datagrams_say_the_same until recording)) in
    (λ is. subst (λ speech. delivered.IsExactVerdictFrom from speech verdict) same is, λ is. subst (λ speech. delivered.IsExactVerdictFrom from speech verdict) (sym same) is)
