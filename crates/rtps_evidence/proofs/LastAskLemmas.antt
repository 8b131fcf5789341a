-- The last answer by which a reader asks for a number, by its acts one after another, the last one first; and what excuses it.
use Rattle.std.proofs.lemmas.Bool.Decides.{nat_tests}
use Rattle.std.proofs.Common.{◌≡◌, ◌∙◌, ℕ, ◌+◌, ◌-◌, ◌<◌, ◌==◌, ◌&&◌, ◌||◌, Bool, true, false, cond, drop, filter, get_or, length, map, max, nat_lt, List, [], ◌∷◌, Option, Some, None, refl, sym, ap, arith}
use Rattle.std.specs.Prelude.{is_some, unwrap_or}
use Rattle.std.specs.Ordering.{is_eq, nat_cmp}
use Rattle.std.specs.List.{last_or, list_any}
use Rattle.std.specs.Option.{option_map, option_or}
use Rattle.std.proofs.lemmas.Bool.{and_parts}
use Rattle.std.proofs.lemmas.List.{drop_more}
use Rattle.rtps_discovery.specs.declared.matching.Pair.{Pair}
use Rattle.rtps_audit.specs.Delivery as delivery
use Rattle.rtps_audit.specs.Placed as placed_spec
use Rattle.rtps_audit.specs.declared.placed.Placed.{Placed}
use Rattle.rtps_audit.specs.Speech as speech
use Rattle.rtps_receiver.specs.Said as said
use Rattle.rtps_evidence.specs.CountedAnswers as counted_answers
use Rattle.rtps_evidence.specs.LastAsks as last_asks
use Rattle.rtps_evidence.specs.Locations as locations
use Rattle.rtps_evidence.specs.LostAnswers as lost_answers
use Rattle.rtps_evidence.specs.Missed as missed
use Rattle.rtps_evidence.specs.Received as received
use Rattle.rtps_evidence.specs.Requests as requests
use Rattle.rtps_evidence.specs.declared.last_asks.LastAsk.{LastAsk}
use Rattle.rtps_evidence.specs.declared.location.Location.{Location}
use Rattle.rtps_evidence.proofs.FindLemmas.{any_filter}
use Rattle.rtps_evidence.proofs.LackLemmas.{answerer, lacks_told}
use Rattle.rtps_evidence.proofs.MissedLemmas.{again_same}
use Rattle.rtps_evidence.proofs.QuestionLemmas.{filter_filter}
use Rattle.rtps_evidence.proofs.RequestLemmas.{is_key}

-- ---- who asks for a number, where nobody is noted

pub or_nothing : (o : Option LastAsk) → option_or o None ≡ o
or_nothing None = refl
or_nothing (Some x) = refl

pub none_there : (o : Option LastAsk) → is_some o ≡ false → o ≡ None
none_there None is = refl
none_there (Some x) is = absurd (let no : true ≡ false = is in cc)

pub noted_once : (old new : Option LastAsk) (x : LastAsk) (number n : ℕ) (lacks : ℕ → Bool) → lacks number ≡ true → (number ≡ n → old ≡ None) → new ≡ cond (is_eq (nat_cmp number n)) (Some x) old
    → new ≡ option_or old (cond ((number == n) && lacks n) (Some x) None)
noted_once old new x number n lacks is none put = put ∙ ap (λ b. cond b (Some x) old) (is_key number n) ∙ by (number == n) refl
  where
    by : (b : Bool) → (number == n) ≡ b → cond b (Some x) old ≡ option_or old (cond (b && lacks n) (Some x) None)
    by true at = (
        let same : number ≡ n = grind (arith, nat_tests, at) in
        sym (ap (λ o. option_or o (cond (lacks n) (Some x) None)) (none same) ∙ ap (λ b. cond b (Some x) None) (sym (ap lacks same) ∙ is)))
    by false at = sym (or_nothing old)

-- where the number is not among these
pub not_among : (old : Option LastAsk) (x : LastAsk) (number n : ℕ) (lacks : ℕ → Bool) → lacks number ≡ false → old ≡ option_or old (cond ((number == n) && lacks n) (Some x) None)
not_among old x number n lacks out = sym (ap (λ b. option_or old (cond b (Some x) None)) (by (number == n) refl) ∙ or_nothing old)
  where
    by : (b : Bool) → (number == n) ≡ b → (b && lacks n) ≡ false
    by true at = (let same : number ≡ n = grind (arith, nat_tests, at) in sym (ap lacks same) ∙ out)
    by false at = refl

-- where somebody is noted
pub noted_already : (old : Option LastAsk) (x : LastAsk) (number n : ℕ) (lacks : ℕ → Bool) → (number ≡ n → is_some old ≡ true) → old ≡ option_or old (cond ((number == n) && lacks n) (Some x) None)
noted_already None x number n lacks some = by (number == n) refl
  where
    by : (b : Bool) → (number == n) ≡ b → None ≡ option_or None (cond (b && lacks n) (Some x) None)
    by true at = (let same : number ≡ n = grind (arith, nat_tests, at) in absurd (let no : false ≡ true = some same in cc))
    by false at = refl
noted_already (Some y) x number n lacks some = refl

-- ---- one act more, in front

-- the last of some is there, where one is
last_there : {X : Type 0} (y : X) (ys : List X) (other : Option X) → option_or (last_or (Some y) ys) other ≡ last_or (Some y) ys
last_there y [] other = refl
last_there y (z ∷ zs) other = last_there z zs other

last_before : {X : Type 0} (x : X) (ys : List X) → last_or (Some x) ys ≡ option_or (last_or None ys) (Some x)
last_before x [] = refl
last_before x (y ∷ ys) = sym (last_there y ys (Some x))

-- none passes, or some do and one is the last
none_kept : (test : placed_spec.PlacedValue → Bool) (xs : List placed_spec.PlacedValue) → list_any test xs ≡ false → filter test xs ≡ []
none_kept test [] none = refl
none_kept test (x ∷ xs) none = by (none_kept test xs) (test x) refl none
  where
    by : (list_any test xs ≡ false → filter test xs ≡ []) → (b : Bool) → test x ≡ b → (b || list_any test xs) ≡ false → cond b (x ∷ filter test xs) (filter test xs) ≡ []
    by onward true is none = absurd (let no : true ≡ false = none in cc)
    by onward false is none = onward none

last_some : (y : placed_spec.PlacedValue) (ys : List placed_spec.PlacedValue) → (z : placed_spec.PlacedValue) × (last_or (Some y) ys ≡ Some z)
last_some y [] = (y, refl)
last_some y (x ∷ xs) = last_some x xs

some_kept : (test : placed_spec.PlacedValue → Bool) (xs : List placed_spec.PlacedValue) → list_any test xs ≡ true → (z : placed_spec.PlacedValue) × (locations.find_last test xs ≡ Some z)
some_kept test [] some = absurd (let no : false ≡ true = some in cc)
some_kept test (x ∷ xs) some = by (some_kept test xs) (test x) some
  where
    by : (list_any test xs ≡ true → (z : placed_spec.PlacedValue) × (locations.find_last test xs ≡ Some z)) → (b : Bool) → (b || list_any test xs) ≡ true → (z : placed_spec.PlacedValue) × (last_or None (cond b (x ∷ filter test xs) (filter test xs)) ≡ Some z)
    by onward true some = last_some x (filter test xs)
    by onward false some = onward some

pub asked_in_front : (pair : Pair) (x : placed_spec.PlacedValue) (xs : List placed_spec.PlacedValue) (n : ℕ)
    → option_or (last_asks.last_ask pair xs n) (cond (lost_answers.lacks_by_answer pair.writer pair.reader n x) (Some (last_asks.ask_at (delivery.greatest (map (locations.base_said pair.writer pair.reader) xs)) x)) None) ≡ last_asks.last_ask pair (x ∷ xs) n
asked_in_front pair x xs n = by (list_any test xs) refl (test x)
  where
    test : placed_spec.PlacedValue → Bool
    test = lost_answers.lacks_by_answer pair.writer pair.reader n

    own : Option LastAsk
    own = Some (last_asks.ask_at (delivery.greatest (map (locations.base_said pair.writer pair.reader) xs)) x)

    by : (later : Bool) → list_any test xs ≡ later → (here : Bool)
        → option_or (last_asks.last_ask pair xs n) (cond here own None)
        ≡ option_map (last_asks.ask_of pair (cond later (lost_answers.behind_last test xs) (cond here xs []))) (last_or None (cond here (x ∷ filter test xs) (filter test xs)))
    by false none true =
        let empty = none_kept test xs none in
        ap (λ l. option_or (option_map (last_asks.ask_of pair (lost_answers.behind_last test xs)) (last_or None l)) own) empty ∙ sym (ap (λ l. option_map (last_asks.ask_of pair xs) (last_or (Some x) l)) empty)
    by false none false =
        let empty = none_kept test xs none in
        ap (λ l. option_or (option_map (last_asks.ask_of pair (lost_answers.behind_last test xs)) (last_or None l)) None) empty ∙ sym (ap (λ l. option_map (last_asks.ask_of pair []) (last_or None l)) empty)
    by true some true =
        let found = some_kept test xs some in
        ap (λ o. option_or (option_map (last_asks.ask_of pair (lost_answers.behind_last test xs)) o) own) found.1
        ∙ sym (ap (option_map (last_asks.ask_of pair (lost_answers.behind_last test xs))) (last_before x (filter test xs) ∙ ap (λ o. option_or o (Some x)) found.1))
    by true some false =
        let found = some_kept test xs some in
        ap (λ o. option_or (option_map (last_asks.ask_of pair (lost_answers.behind_last test xs)) o) None) found.1 ∙ sym (ap (option_map (last_asks.ask_of pair (lost_answers.behind_last test xs))) found.1)

-- the same of those that are among some numbers
pub front_more : (pair : Pair) (x : placed_spec.PlacedValue) (xs : List placed_spec.PlacedValue) (n : ℕ) (has : Bool) (below : ℕ) (old : Option LastAsk) → old ≡ cond has (last_asks.last_ask pair xs n) None → below ≡ delivery.greatest (map (locations.base_said pair.writer pair.reader) xs)
    → option_or old (cond (lost_answers.lacks_by_answer pair.writer pair.reader n x && has) (Some (last_asks.ask_at below x)) None) ≡ cond has (last_asks.last_ask pair (x ∷ xs) n) None
front_more pair x xs n true below old is at =
    ap (λ o. option_or o (cond (lost_answers.lacks_by_answer pair.writer pair.reader n x && true) (Some (last_asks.ask_at below x)) None)) is
    ∙ ap (λ b. option_or (last_asks.last_ask pair xs n) (cond b (Some (last_asks.ask_at below x)) None)) (and_yes (lost_answers.lacks_by_answer pair.writer pair.reader n x))
    ∙ ap (λ m. option_or (last_asks.last_ask pair xs n) (cond (lost_answers.lacks_by_answer pair.writer pair.reader n x) (Some (last_asks.ask_at m x)) None)) at ∙ asked_in_front pair x xs n
  where
    and_yes : (b : Bool) → (b && true) ≡ b
    and_yes true = refl
    and_yes false = refl
front_more pair x xs n false below old is at =
    ap (λ o. option_or o (cond (lost_answers.lacks_by_answer pair.writer pair.reader n x && false) (Some (last_asks.ask_at below x)) None)) is
    ∙ ap (λ b. option_or None (cond b (Some (last_asks.ask_at below x)) None)) (and_no (lost_answers.lacks_by_answer pair.writer pair.reader n x))
  where
    and_no : (b : Bool) → (b && false) ≡ false
    and_no true = refl
    and_no false = refl

-- the last acts, with one more in front
pub dropped_more : (acts : List Placed) (last : ℕ) (x : Placed) → last < length acts → x ≡ get_or acts (length acts - 1 - last) x
    → map placed_spec.placed_value (drop (length acts - (last + 1)) acts) ≡ placed_spec.placed_value x ∷ map placed_spec.placed_value (drop (length acts - last) acts)
dropped_more acts last x lt at =
    let same : length acts - (last + 1) ≡ length acts - 1 - last = omega (arith, lt) in
    let next : length acts - (last + 1) + 1 ≡ length acts - last = omega (arith, lt) in
    ap (map placed_spec.placed_value) (drop_more acts (length acts - (last + 1)) x (omega (arith, lt)))
    ∙ ap (λ y. placed_spec.placed_value y ∷ map placed_spec.placed_value (drop (length acts - (last + 1) + 1) acts)) (ap (λ k. get_or acts k x) same ∙ sym at)
    ∙ ap (λ k. placed_spec.placed_value x ∷ map placed_spec.placed_value (drop k acts)) next

-- ---- what is claimed behind it

below_or : (n a b : ℕ) → nat_lt n (max a b) ≡ (nat_lt n a || nat_lt n b)
below_or n a b = grind (arith, nat_tests)

none_below : (n : ℕ) → nat_lt n 0 ≡ false
none_below n = grind (arith, nat_tests)

-- what the greatest base is above is claimed
below_claimed : (pair : Pair) (n : ℕ) (xs : List placed_spec.PlacedValue) → nat_lt n (delivery.greatest (map (locations.base_said pair.writer pair.reader) xs)) ≡ list_any (received.claims pair.writer pair.reader n) xs
below_claimed pair n [] = none_below n
below_claimed pair n (x ∷ xs) =
    below_or n (locations.base_said pair.writer pair.reader x) (delivery.greatest (map (locations.base_said pair.writer pair.reader) xs)) ∙ ap (λ b. nat_lt n (locations.base_said pair.writer pair.reader x) || b) (below_claimed pair n xs)

-- where none passes, nothing stands behind the last one that does
nothing : (test : placed_spec.PlacedValue → Bool) (ys : List placed_spec.PlacedValue) → list_any test ys ≡ false → lost_answers.behind_last test ys ≡ []
nothing test [] none = refl
nothing test (y ∷ ys) none = on (test y) (list_any test ys) none
  where
    on : (here later : Bool) → (here || later) ≡ false → cond later (lost_answers.behind_last test ys) (cond here ys []) ≡ []
    on true later none = absurd (let no : true ≡ false = none in cc)
    on false true none = absurd (let no : true ≡ false = none in cc)
    on false false none = refl

-- where acts are left out that do not pass
behind_kept : (test keeps : placed_spec.PlacedValue → Bool) → ((x : placed_spec.PlacedValue) → test x ≡ true → keeps x ≡ true) → (xs : List placed_spec.PlacedValue) → lost_answers.behind_last test (filter keeps xs) ≡ filter keeps (lost_answers.behind_last test xs)
behind_kept test keeps h [] = refl
behind_kept test keeps h (x ∷ xs) = by (behind_kept test keeps h xs) (keeps x) refl (test x) refl (list_any test xs) refl
  where
    same : list_any test (filter keeps xs) ≡ list_any test xs
    same = any_filter test keeps h xs

    by : lost_answers.behind_last test (filter keeps xs) ≡ filter keeps (lost_answers.behind_last test xs) → (kept : Bool) → keeps x ≡ kept → (passes : Bool) → test x ≡ passes → (later : Bool) → list_any test xs ≡ later
        → lost_answers.behind_last test (cond kept (x ∷ filter keeps xs) (filter keeps xs)) ≡ filter keeps (cond later (lost_answers.behind_last test xs) (cond passes xs []))
    by rest true too passes is true some = ap (λ b. cond b (lost_answers.behind_last test (filter keeps xs)) (cond (test x) (filter keeps xs) [])) (same ∙ some) ∙ rest
    by rest true too true is false none = ap (λ b. cond b (lost_answers.behind_last test (filter keeps xs)) (cond (test x) (filter keeps xs) [])) (same ∙ none) ∙ ap (λ b. cond b (filter keeps xs) []) is
    by rest true too false is false none = ap (λ b. cond b (lost_answers.behind_last test (filter keeps xs)) (cond (test x) (filter keeps xs) [])) (same ∙ none) ∙ ap (λ b. cond b (filter keeps xs) []) is
    by rest false out passes is true some = rest
    by rest false out true is false none = absurd (let clash : true ≡ false = sym (h x is) ∙ out in cc)
    by rest false out false is false none = rest ∙ ap (filter keeps) (nothing test xs none)

-- ---- a reader's own acts

own_asker : (pair : Pair) (n : ℕ) (x : placed_spec.PlacedValue) → lost_answers.lacks_by_answer pair.writer pair.reader n x ≡ true → placed_spec.is_from pair.reader x ≡ true
own_asker pair n x is = answerer pair.writer pair.reader x (and_parts (lost_answers.answers pair.writer pair.reader x) ((said.said x.act.body).lacked n) is).0

none_said : (pair : Pair) (n : ℕ) (x : placed_spec.PlacedValue) → lost_answers.answers pair.writer pair.reader x ≡ false → received.claims pair.writer pair.reader n x ≡ false
none_said pair n x silent = ap (λ b. nat_lt n (unwrap_or (cond b (speech.base_of_body x.act.body) None) 0)) silent ∙ none_below n

-- what a claim says is said by an answer
own_claimer : (pair : Pair) (n : ℕ) (x : placed_spec.PlacedValue) → received.claims pair.writer pair.reader n x ≡ true → placed_spec.is_from pair.reader x ≡ true
own_claimer pair n x is = by (lost_answers.answers pair.writer pair.reader x) refl
  where
    by : (b : Bool) → lost_answers.answers pair.writer pair.reader x ≡ b → placed_spec.is_from pair.reader x ≡ true
    by true answer = answerer pair.writer pair.reader x answer
    by false silent = absurd (let no = none_said pair n x silent in let clash : true ≡ false = sym is ∙ no in cc)

-- ---- what excuses a number

-- by the last asks and the counted answers of the reader's own acts, and by the writer's own acts
pub excused_told : (pair : Pair) (placed : List placed_spec.PlacedValue) (n : ℕ)
    → requests.option_any (last_asks.excuses pair (counted_answers.counted_among pair (filter (placed_spec.is_from pair.reader) placed)) (filter (placed_spec.is_from pair.writer) placed) n) (last_asks.last_ask pair (filter (placed_spec.is_from pair.reader) placed) n)
    ≡ missed.is_excused_by pair.writer pair.reader placed n (locations.find_last (lost_answers.lacks_by_answer pair.writer pair.reader n) placed)
excused_told pair placed n =
    ap (λ o. requests.option_any (last_asks.excuses pair (counted_answers.counted_among pair own) (filter (placed_spec.is_from pair.writer) placed) n) (option_map (last_asks.ask_of pair (lost_answers.behind_last test own)) o)) (ap (last_or None) (filter_filter test (placed_spec.is_from pair.reader) (own_asker pair n) placed))
    ∙ by (locations.find_last test placed)
  where
    own : List placed_spec.PlacedValue
    own = filter (placed_spec.is_from pair.reader) placed

    test : placed_spec.PlacedValue → Bool
    test = lost_answers.lacks_by_answer pair.writer pair.reader n

    claimed : nat_lt n (delivery.greatest (map (locations.base_said pair.writer pair.reader) (lost_answers.behind_last test own))) ≡ lost_answers.is_claimed_then pair.writer pair.reader placed n
    claimed =
        below_claimed pair n (lost_answers.behind_last test own)
        ∙ ap (list_any (received.claims pair.writer pair.reader n)) (behind_kept test (placed_spec.is_from pair.reader) (own_asker pair n) placed)
        ∙ any_filter (received.claims pair.writer pair.reader n) (placed_spec.is_from pair.reader) (own_claimer pair n) (lost_answers.behind_last test placed)

    there : (place : Option Location) → last_asks.lacks_at (counted_answers.counted_among pair own) place ≡ missed.lacks_there pair.writer pair.reader placed place
    there None = refl
    there (Some place) = lacks_told pair placed place

    by : (asking : Option placed_spec.PlacedValue) → requests.option_any (last_asks.excuses pair (counted_answers.counted_among pair own) (filter (placed_spec.is_from pair.writer) placed) n) (option_map (last_asks.ask_of pair (lost_answers.behind_last test own)) asking) ≡ missed.is_excused_by pair.writer pair.reader placed n asking
    by None = refl
    by (Some asking) =
        ap (λ b. b && last_asks.lacks_at (counted_answers.counted_among pair own) (missed.again_behind (locations.location_of asking) pair.writer pair.reader n (filter (placed_spec.is_from pair.writer) placed))) claimed
        ∙ ap (λ o. lost_answers.is_claimed_then pair.writer pair.reader placed n && last_asks.lacks_at (counted_answers.counted_among pair own) o) (again_same (locations.location_of asking) pair.writer pair.reader n placed)
        ∙ ap (λ b. lost_answers.is_claimed_then pair.writer pair.reader placed n && b) (there (missed.again_behind (locations.location_of asking) pair.writer pair.reader n placed))
