-- Where a reader joins and leaves, and from which number on.
use Rattle.std.proofs.lemmas.Grind.{common_steps}
use Rattle.std.proofs.Common.{◌≡◌, ◌∙◌, ℕ, suc, ◌+◌, ◌-◌, ◌<◌, ◌≤◌, ◌^◌, ◌&&◌, ◌||◌, Bool, true, false, cond, not, nat_lt, max, map, filter, get_or, length, take, List, [], ◌∷◌, ◌++◌, append-nil, Option, Some, None, refl, sym, ap, subst, arith, inl, inr, rules}
use Rattle.std.specs.Prelude.{IfSome, unwrap_or}
use Rattle.std.specs.List.{before_first, cons_option, find, list_any, prefix_len}
use Rattle.std.specs.Option.{option_map}
use Rattle.std.proofs.lemmas.Bool.{and_parts, cases_lt}
use Rattle.std.proofs.lemmas.Bool.Decides.{nat_tests}
use Rattle.rtps_ids.specs.declared.identity.Guid.{Guid}
use Rattle.rtps_discovery.specs.Leaving as leaving
use Rattle.rtps_discovery.specs.declared.matching.Pair.{Pair}
use Rattle.rtps_receiver.specs.Speech as receiver_speech
use Rattle.rtps_receiver.specs.Values as values
use Rattle.rtps_receiver.specs.Said as said
use Rattle.rtps_receiver.specs.declared.said.Numbers.{Numbers}
use Rattle.rtps_audit.specs.Delivery as delivery
use Rattle.rtps_audit.specs.Intake as intake
use Rattle.rtps_audit.specs.Placed as placed_spec
use Rattle.rtps_audit.specs.Speech as audit_speech
use Rattle.rtps_audit.proofs.Offered.{speaker_is_origin}
use Rattle.rtps_evidence.proofs.AskingLemmas.{requester_is_origin}
use Rattle.rtps_evidence.specs.Locations as locations
use Rattle.rtps_evidence.specs.Missed as missed
use Rattle.rtps_evidence.specs.Spans as spans
use Rattle.rtps_evidence.specs.declared.location.Location.{Location}
use Rattle.rtps_evidence.proofs.MissedLemmas.{brought_same}
use Rattle.rtps_evidence.proofs.FindLemmas.{any_filter, any_one_more}
use Rattle.rtps_evidence.proofs.PlacedOrder.{AreOrdered}

-- ---- the least number that has it

pub least_same : (one other : ℕ → Bool) (lo : ℕ) (o : Option ℕ) → ((n : ℕ) → one n ≡ other n) → spans.IsLeastFrom other lo o → spans.IsLeastFrom one lo o
least_same one other lo o h h2 = grind (arith, nat_tests)

neither : (a b : Bool) → a ≡ false → b ≡ false → (a || b) ≡ false
neither a b h h2 = grind (arith, nat_tests)

first : (a b : Bool) → a ≡ true → (a || b) ≡ true
first a b h = grind (arith, nat_tests)

second : (a b : Bool) → b ≡ true → (a || b) ≡ true
second a b h = grind (arith, nat_tests)

pub least_either : (one other : ℕ → Bool) (lo : ℕ) (a b : Option ℕ) → spans.IsLeastFrom one lo a → spans.IsLeastFrom other lo b → spans.IsLeastFrom (λ n. one n || other n) lo (spans.lesser_of a b)
least_either one other lo a b h h2 = grind (arith, nat_tests)

pub least_more : {X Y : Type 0} (v : X → Y) (test : ℕ → Y → Bool) (xs : List X) (i : ℕ) (x : X) (lo : ℕ) (one other found : Option ℕ) → i < length xs → x ≡ get_or xs i x
    → spans.IsLeastFrom (λ n. list_any (test n) (map v (take i xs))) lo one → spans.IsLeastFrom (λ n. test n (v x)) lo other → found ≡ spans.lesser_of one other
    → spans.IsLeastFrom (λ n. list_any (test n) (map v (take (i + 1) xs))) lo found
least_more v test xs i x lo one other found lt at so_far here is = grind (arith, nat_tests, common_steps)

-- with one act more
pub least_told : (test : ℕ → placed_spec.PlacedValue → Bool) (acts : List placed_spec.PlacedValue) (x : placed_spec.PlacedValue) (lo : ℕ) (one other found : Option ℕ) → spans.IsLeastFrom (λ n. list_any (test n) acts) lo one → spans.IsLeastFrom (λ n. test n x) lo other
    → found ≡ spans.lesser_of one other → spans.IsLeastFrom (λ n. list_any (test n) (acts ++ x ∷ [])) lo found
least_told test acts x lo one other found so_far here is =
    subst (spans.IsLeastFrom (λ n. list_any (test n) (acts ++ x ∷ [])) lo) (sym is) (least_same (λ n. list_any (test n) (acts ++ x ∷ [])) (λ n. list_any (test n) acts || test n x) lo (spans.lesser_of one other) (λ n. any_one_more (test n) acts x) (least_either (λ n. list_any (test n) acts) (λ n. test n x) lo one other so_far here))

pub lesser_below : (one other found : Option ℕ) → IfSome one (λ number. number < 2 ^ 63) → IfSome other (λ number. number < 2 ^ 63) → found ≡ spans.lesser_of one other → IfSome found (λ number. number < 2 ^ 63)
lesser_below one other found low under is = grind (arith, nat_tests)

-- ---- the numbers that an act asks for

pub asked_least : (pair : Pair) (placed : placed_spec.PlacedValue) (lacked : Numbers) (lo : ℕ) (o : Option ℕ) → receiver_speech.is_request placed.act pair.reader pair.writer ≡ true → ((n : ℕ) → said.numbers_have lacked n ≡ (said.said placed.act.body).lacked n)
    → spans.IsLeastFrom (said.numbers_have lacked) lo o → spans.IsLeastFrom (λ n. missed.asks_for pair.writer pair.reader n placed) lo o
asked_least pair placed lacked lo o answers are least = grind (arith, nat_tests)

-- ---- the same by the acts of one

pub claims_same : (pair : Pair) (place : Location) (placed : List placed_spec.PlacedValue) → list_any (spans.claims_at_before place) (placed_spec.answers_among pair placed) ≡ list_any (spans.claims_before place pair) placed
claims_same pair place [] = refl
claims_same pair place (x ∷ placed) = by (audit_speech.base_for pair.writer pair.reader x.act) refl (claims_same pair place placed)
  where
    rest : Bool
    rest = list_any (spans.claims_before place pair) placed

    never : (b : Bool) → rest ≡ ((b && false) || rest)
    never true = refl
    never false = refl

    by : (said : Option ℕ) → audit_speech.base_for pair.writer pair.reader x.act ≡ said → list_any (spans.claims_at_before place) (placed_spec.answers_among pair placed) ≡ rest
        → list_any (spans.claims_at_before place) (cons_option (placed_spec.answer_at x.datagram x.act.at said) (placed_spec.answers_among pair placed)) ≡ ((locations.is_before place x && nat_lt 1 (unwrap_or (audit_speech.base_for pair.writer pair.reader x.act) 0)) || rest)
    by None said h =
        let low : nat_lt 1 0 ≡ false = grind (arith, nat_tests) in
        h ∙ never (locations.is_before place x) ∙ ap (λ b. (locations.is_before place x && b) || rest) (sym low) ∙ sym (ap (λ o. (locations.is_before place x && nat_lt 1 (unwrap_or o 0)) || rest) said)
    by (Some base) said h = ap (λ b. (locations.is_before place x && nat_lt 1 base) || b) h ∙ sym (ap (λ o. (locations.is_before place x && nat_lt 1 (unwrap_or o 0)) || rest) said)

pub asked_same : (pair : Pair) (n : ℕ) (placed : List placed_spec.PlacedValue) → list_any (missed.asks_for pair.writer pair.reader n) (filter (placed_spec.is_from pair.reader) placed) ≡ list_any (missed.asks_for pair.writer pair.reader n) placed
asked_same pair n placed = grind (arith, nat_tests, common_steps, any_filter, requester_is_origin, and_parts)

-- the greatest of what is 0 for all that are left out
pub greatest_filter : (number : placed_spec.PlacedValue → ℕ) (keeps : placed_spec.PlacedValue → Bool) → ((x : placed_spec.PlacedValue) → keeps x ≡ false → number x ≡ 0) → (placed : List placed_spec.PlacedValue) → delivery.greatest (map number (filter keeps placed)) ≡ delivery.greatest (map number placed)
greatest_filter number keeps none [] = refl
greatest_filter number keeps none (x ∷ placed) = by (keeps x) refl (greatest_filter number keeps none placed)
  where
    by : (b : Bool) → keeps x ≡ b → delivery.greatest (map number (filter keeps placed)) ≡ delivery.greatest (map number placed) → delivery.greatest (map number (cond b (x ∷ filter keeps placed) (filter keeps placed))) ≡ max (number x) (delivery.greatest (map number placed))
    by true kept h = ap (max (number x)) h
    by false kept h = let zero = none x kept in omega (arith, h)

pub announced_same : (writer : Guid) (place : Location) (placed : List placed_spec.PlacedValue) → spans.announced_before place writer (filter (placed_spec.is_from writer) placed) ≡ spans.announced_before place writer placed
announced_same writer place placed = grind (arith, nat_tests, common_steps, greatest_filter, speaker_is_origin)

pub said_same : (writer : Guid) (placed : List placed_spec.PlacedValue) → delivery.greatest (map (locations.number_said writer) (filter (placed_spec.is_from writer) placed)) ≡ delivery.greatest (map (locations.number_said writer) placed)
said_same writer placed = grind (arith, nat_tests, common_steps, greatest_filter, speaker_is_origin)

-- ---- what is told gone first

pub end_same : (one other : ℕ → Bool) (end : ℕ) → ((n : ℕ) → one n ≡ other n) → spans.IsEndOf other end → spans.IsEndOf one end
end_same one other end same is = record { below = λ n has. is.below n (sym (same n) ∙ has); last = λ some. same (end - 1) ∙ is.last some }

pub end_none : (has : ℕ → Bool) → ((n : ℕ) → has n ≡ false) → spans.IsEndOf has 0
end_none has none = record { below = λ n is. absurd (let no : false ≡ true = sym (none n) ∙ is in cc); last = λ some. absurd (omega arith) }

pub end_found : (has : ℕ → Bool) (end : ℕ) → ((n : ℕ) → end ≤ n → has n ≡ false) → (0 < end → has (end - 1) ≡ true) → spans.IsEndOf has end
end_found has end past last = record {
  below = λ n is. elim (cases_lt n end) [
    | inl lt ↦ lt
    | inr ge ↦ absurd (let no : false ≡ true = sym (past n ge) ∙ is in cc)
  ];
  last = last;
}

pub end_max : (one other : ℕ → Bool) (a b : ℕ) → spans.IsEndOf one a → spans.IsEndOf other b → spans.IsEndOf (λ n. one n || other n) (max a b)
end_max one other a b is also = record {
  below = λ n has. below n (one n) (other n) refl refl has;
  last = λ some. elim (cases_lt a b) [
    | inl lt ↦
        let at : max a b ≡ b = omega arith in
        subst (λ m. (one (m - 1) || other (m - 1)) ≡ true) (sym at) (second (one (b - 1)) (other (b - 1)) (also.last (omega arith)))
    | inr ge ↦
        let at : max a b ≡ a = omega arith in
        subst (λ m. (one (m - 1) || other (m - 1)) ≡ true) (sym at) (first (one (a - 1)) (other (a - 1)) (is.last (omega arith)))
  ];
}
  where
    below : (n : ℕ) (c d : Bool) → one n ≡ c → other n ≡ d → (one n || other n) ≡ true → n < max a b
    below n true d at_one at_other has = let lt = is.below n at_one in omega arith
    below n false true at_one at_other has = let lt = also.below n at_other in omega arith
    below n false false at_one at_other has = absurd (let no : true ≡ false = sym has ∙ ap (λ c. c || other n) at_one ∙ at_other in cc)

pub one_end : (has : ℕ → Bool) (one other : ℕ) → spans.IsEndOf has one → spans.IsEndOf has other → one ≡ other
one_end has one other is also = elim (cases_lt one other) [
  | inl lt ↦ absurd (let low = is.below (other - 1) (also.last (omega arith)) in omega arith)
  | inr ge ↦ elim (cases_lt other one) [
    | inl lt ↦ absurd (let low = also.below (one - 1) (is.last (omega arith)) in omega arith)
    | inr le ↦ omega arith
  ]
]

one_more : (m : ℕ) → 1 + m ≡ suc m
one_more m = omega arith

pub first_past : {X : Type 0} (test : X → Bool) (x : X) (xs : List X) → test x ≡ false → before_first test (x ∷ xs) ≡ x ∷ before_first test xs
first_past test x xs out = ap (λ b. take (cond (not b) (1 + prefix_len (λ y. not (test y)) xs) 0) (x ∷ xs)) out ∙ ap (λ m. take m (x ∷ xs)) (one_more (prefix_len (λ y. not (test y)) xs))

pub first_stops : {X : Type 0} (test : X → Bool) (x : X) (xs : List X) → test x ≡ true → before_first test (x ∷ xs) ≡ []
first_stops test x xs is = ap (λ b. take (cond (not b) (1 + prefix_len (λ y. not (test y)) xs) 0) (x ∷ xs)) is

-- what stands before the first that passes, behind some that do not
pub before_first_on : (test : placed_spec.PlacedValue → Bool) (xs ys : List placed_spec.PlacedValue) → list_any test xs ≡ false → before_first test (xs ++ ys) ≡ xs ++ before_first test ys
before_first_on test [] ys none = refl
before_first_on test (x ∷ xs) ys none = first_past test x (xs ++ ys) (here (test x) (list_any test xs) none) ∙ ap (λ l. x ∷ l) (before_first_on test xs ys (there (test x) (list_any test xs) none))
  where
    here : (a b : Bool) → (a || b) ≡ false → a ≡ false
    here a b h = grind (arith, nat_tests)

    there : (a b : Bool) → (a || b) ≡ false → b ≡ false
    there a b h = grind (arith, nat_tests)

-- what stands before the first that passes, where these do not and the next one does
pub before_first_at : (test : placed_spec.PlacedValue → Bool) (xs : List placed_spec.PlacedValue) (x : placed_spec.PlacedValue) (ys : List placed_spec.PlacedValue) → list_any test xs ≡ false → test x ≡ true → before_first test (xs ++ x ∷ ys) ≡ xs
before_first_at test xs x ys none is = before_first_on test xs (x ∷ ys) none ∙ ap (λ l. xs ++ l) (first_stops test x ys is) ∙ append-nil xs

-- all of them, where it does not stop
pub before_first_all : (test : placed_spec.PlacedValue → Bool) (xs : List placed_spec.PlacedValue) → list_any test xs ≡ false → before_first test xs ≡ xs
before_first_all test xs none = sym (ap (before_first test) (append-nil xs)) ∙ before_first_on test xs [] none ∙ append-nil xs

-- of acts that are left out none passes, and none has it
pub before_first_same : (test has keeps : placed_spec.PlacedValue → Bool) → ((x : placed_spec.PlacedValue) → keeps x ≡ false → test x ≡ false) → ((x : placed_spec.PlacedValue) → keeps x ≡ false → has x ≡ false) → (xs : List placed_spec.PlacedValue)
    → list_any has (before_first test (filter keeps xs)) ≡ list_any has (before_first test xs)
before_first_same test has keeps out none [] = refl
before_first_same test has keeps out none (x ∷ xs) = by (keeps x) (test x) refl refl (before_first_same test has keeps out none xs)
  where
    by : (k t : Bool) → keeps x ≡ k → test x ≡ t → list_any has (before_first test (filter keeps xs)) ≡ list_any has (before_first test xs)
        → list_any has (before_first test (cond (keeps x) (x ∷ filter keeps xs) (filter keeps xs))) ≡ list_any has (before_first test (x ∷ xs))
    by true true kept stops h =
        ap (λ k. list_any has (before_first test (cond k (x ∷ filter keeps xs) (filter keeps xs)))) kept
        ∙ ap (list_any has) (first_stops test x (filter keeps xs) stops ∙ sym (first_stops test x xs stops))
    by true false kept on h =
        ap (λ k. list_any has (before_first test (cond k (x ∷ filter keeps xs) (filter keeps xs)))) kept
        ∙ ap (list_any has) (first_past test x (filter keeps xs) on) ∙ ap (λ b. has x || b) h ∙ sym (ap (list_any has) (first_past test x xs on))
    by false t left at h =
        ap (λ k. list_any has (before_first test (cond k (x ∷ filter keeps xs) (filter keeps xs)))) left
        ∙ h ∙ ap (λ b. b || list_any has (before_first test xs)) (sym (none x left)) ∙ sym (ap (list_any has) (first_past test x xs (out x left)))

unspoken : (writer : Guid) (x : placed_spec.PlacedValue) → placed_spec.is_from writer x ≡ false → receiver_speech.is_spoken_by x.act writer ≡ false
unspoken writer x out = search rules

brings_out : (place : Option Location) (pair : Pair) (x : placed_spec.PlacedValue) → placed_spec.is_from pair.writer x ≡ false → missed.brings_some place pair.writer pair.reader x ≡ false
brings_out place pair x out = let no = unspoken pair.writer x out in grind (arith, nat_tests, no)

gaps_out : (place : Option Location) (pair : Pair) (n : ℕ) (x : placed_spec.PlacedValue) → placed_spec.is_from pair.writer x ≡ false → spans.gaps_behind place pair.writer pair.reader n x ≡ false
gaps_out place pair n x out = let no = unspoken pair.writer x out in grind (arith, nat_tests, no)

pub gone_first_same : (place : Location) (pair : Pair) (placed : List placed_spec.PlacedValue) (n : ℕ) → spans.is_gone_first place pair (filter (placed_spec.is_from pair.writer) placed) n ≡ spans.is_gone_first place pair placed n
gone_first_same place pair placed n =
    before_first_same (missed.brings_some (Some place) pair.writer pair.reader) (spans.gaps_behind (Some place) pair.writer pair.reader n) (placed_spec.is_from pair.writer) (λ x out. brings_out (Some place) pair x out) (λ x out. gaps_out (Some place) pair n x out) placed

-- the least number that may be owed, by the acts of the writer
pub owed_here : (from : ℕ) (place : Location) (pair : Pair) (intake : intake.Intake) (acts : List placed_spec.PlacedValue) (volatile : Bool) (announced gone owed : ℕ) → acts ≡ filter (placed_spec.is_from pair.writer) (placed_spec.placed_in intake.acts)
    → spans.IsVolatileIn intake pair.reader volatile → announced ≡ spans.announced_before place pair.writer acts → spans.IsEndOf (spans.is_gone_first place pair acts) gone → owed ≡ spans.least_owed from volatile announced gone → spans.IsOwedFrom from place pair intake owed
owed_here from place pair intake acts volatile announced gone owed are is_volatile said is_gone is = record {
  volatile = volatile;
  is_volatile = is_volatile;
  gone_end = gone;
  is_gone_end = end_same (spans.is_gone_first place pair (placed_spec.placed_in intake.acts)) (spans.is_gone_first place pair acts) gone (λ n. sym (ap (λ l. spans.is_gone_first place pair l n) are ∙ gone_first_same place pair (placed_spec.placed_in intake.acts) n)) is_gone;
  is = is ∙ ap (λ a. spans.least_owed from volatile a gone) (said ∙ ap (spans.announced_before place pair.writer) are ∙ announced_same pair.writer place (placed_spec.placed_in intake.acts));
}

-- ---- who leaves first

abbrev pub AtLeast : ℕ → Option ℕ → Type 0
AtLeast low None = Unit {0}
AtLeast low (Some n) = low ≤ n

lesser_left : (low : ℕ) (o : Option ℕ) → AtLeast low o → spans.lesser_of (Some low) o ≡ Some low
lesser_left low o h = grind (arith, nat_tests)

lesser_right : (low : ℕ) (o : Option ℕ) → AtLeast low o → spans.lesser_of o (Some low) ≡ Some low
lesser_right low o h = grind (arith, nat_tests)

abbrev pub datagram_of : Option placed_spec.PlacedValue → Option ℕ
datagram_of o = option_map (λ (placed : placed_spec.PlacedValue). placed.datagram) o

found_past : (test : placed_spec.PlacedValue → Bool) (x : placed_spec.PlacedValue) (xs : List placed_spec.PlacedValue) (k : Bool) → find test (cond k (x ∷ xs) xs) ≡ cond k (cond (test x) (Some x) (find test xs)) (find test xs)
found_past test x xs k = grind (arith, nat_tests)

later_found : (test keeps : placed_spec.PlacedValue → Bool) (low : ℕ) (xs : List placed_spec.PlacedValue) → AreOrdered low xs → AtLeast low (datagram_of (find test (filter keeps xs)))
later_found test keeps low [] ordered = tt
later_found test keeps low (x ∷ xs) (le, rest) = subst (λ o. AtLeast low (datagram_of o)) (sym (found_past test x (filter keeps xs) (keeps x))) (by (later_found test keeps x.datagram xs rest) (keeps x) (test x))
  where
    lower : (o : Option ℕ) → AtLeast x.datagram o → AtLeast low o
    lower None h = tt
    lower (Some n) h = let more : x.datagram ≤ n = h in omega arith

    by : AtLeast x.datagram (datagram_of (find test (filter keeps xs))) → (k t : Bool) → AtLeast low (datagram_of (cond k (cond t (Some x) (find test (filter keeps xs))) (find test (filter keeps xs))))
    by behind true true = le
    by behind true false = lower (datagram_of (find test (filter keeps xs))) behind
    by behind false t = lower (datagram_of (find test (filter keeps xs))) behind

-- the first act by which a reader leaves is the first of two writers' first ones, where no other says so
pub left_of_two : (one other reader : Guid) (place : Location) (placed : List placed_spec.PlacedValue) (low : ℕ) → AreOrdered low placed → ((act : values.ActValue) → leaving.leaves reader act ≡ true → leaving.is_one_of one other (receiver_speech.origin_of act) ≡ true)
    → spans.lesser_of (datagram_of (find (spans.leaves_behind place reader) (filter (placed_spec.is_from one) placed))) (datagram_of (find (spans.leaves_behind place reader) (filter (placed_spec.is_from other) placed))) ≡ datagram_of (find (spans.leaves_behind place reader) placed)
left_of_two one other reader place [] low ordered who = refl
left_of_two one other reader place (x ∷ xs) low (le, rest) who =
    ap (λ o. spans.lesser_of (datagram_of o) (datagram_of (find test (cond (placed_spec.is_from other x) (x ∷ filter (placed_spec.is_from other) xs) (filter (placed_spec.is_from other) xs))))) (found_past test x (filter (placed_spec.is_from one) xs) (placed_spec.is_from one x))
    ∙ ap (λ o. spans.lesser_of (datagram_of (cond (placed_spec.is_from one x) (cond (test x) (Some x) (find test (filter (placed_spec.is_from one) xs))) (find test (filter (placed_spec.is_from one) xs)))) (datagram_of o)) (found_past test x (filter (placed_spec.is_from other) xs) (placed_spec.is_from other x))
    ∙ by (placed_spec.is_from one x) (placed_spec.is_from other x) (test x) (λ h. who x.act (and_parts (locations.is_behind (Some place) x) (leaving.leaves reader x.act) h).1) (left_of_two one other reader place xs x.datagram rest who)
  where
    test : placed_spec.PlacedValue → Bool
    test = spans.leaves_behind place reader

    here : Option placed_spec.PlacedValue
    here = find test (filter (placed_spec.is_from one) xs)

    there : Option placed_spec.PlacedValue
    there = find test (filter (placed_spec.is_from other) xs)

    by : (a b c : Bool) → (c ≡ true → (a || b) ≡ true) → spans.lesser_of (datagram_of here) (datagram_of there) ≡ datagram_of (find test xs)
        → spans.lesser_of (datagram_of (cond a (cond c (Some x) here) here)) (datagram_of (cond b (cond c (Some x) there) there)) ≡ datagram_of (cond c (Some x) (find test xs))
    by true true true who h = lesser_left x.datagram (Some x.datagram) (omega arith)
    by true false true who h = lesser_left x.datagram (datagram_of there) (later_found test (placed_spec.is_from other) x.datagram xs rest)
    by false true true who h = lesser_right x.datagram (datagram_of here) (later_found test (placed_spec.is_from one) x.datagram xs rest)
    by false false true who h = absurd (let no : false ≡ true = who refl in cc)
    by true true false who h = h
    by true false false who h = h
    by false true false who h = h
    by false false false who h = h

-- ---- the first number that is for the reader

pub for_reader : (pair : Pair) (place : Location) (placed : List placed_spec.PlacedValue) (owed : ℕ) (brought asked found : Option ℕ)
    → spans.IsLeastFrom (λ n. list_any (missed.brings_behind (Some place) pair.writer pair.reader n) (filter (placed_spec.is_from pair.writer) placed)) owed brought
    → spans.IsLeastFrom (λ n. list_any (missed.asks_for pair.writer pair.reader n) (filter (placed_spec.is_from pair.reader) placed)) owed asked
    → found ≡ spans.lesser_of brought asked → spans.IsLeastFrom (spans.is_for_reader place pair placed) owed found
for_reader pair place placed owed brought asked found b a is = grind (arith, nat_tests, common_steps, least_either, least_same, brought_same, asked_same)
