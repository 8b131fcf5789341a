-- The walk over what a pair said ends in silence where its words are true.
use Rattle.std.proofs.lemmas.Grind.{common_steps}
use Rattle.std.proofs.lemmas.Bool.Decides.{nat_tests}
use Rattle.std.proofs.Common.{◌≡◌, ◌∙◌, ℕ, suc, ◌+◌, ◌^◌, ◌≤◌, ◌&&◌, ◌||◌, Bool, true, false, cond, not, filter, length, pos, List, [], ◌∷◌, ◌++◌, Option, Some, None, refl, sym, ap, subst, arith, rules}
use Rattle.std.specs.Prelude.{is_some}
use Rattle.std.specs.List.{cons_option, find, list_any}
use Rattle.std.proofs.lemmas.Bool.{and_parts}
use Rattle.std.proofs.lemmas.List.Elements.{filter-append}
use Rattle.std.proofs.lemmas.List.Folds.{list_any-append}
use Rattle.rtps_ids.specs.declared.identity.Guid.{Guid}
use Rattle.rtps_discovery.specs.declared.matching.Pair.{Pair}
use Rattle.rtps_receiver.specs.Speech as receiver_speech
use Rattle.rtps_audit.specs.Placed as placed
use Rattle.rtps_audit.specs.Speech as audit_speech
use Rattle.rtps_audit.specs.declared.answer.Answer.{Answer}
use Rattle.rtps_evidence.specs.Locations as locations
use Rattle.rtps_evidence.specs.Outcomes as outcomes
use Rattle.rtps_evidence.specs.Questions as questions
use Rattle.rtps_evidence.specs.Received as received
use Rattle.rtps_evidence.specs.Times as times_spec
use Rattle.rtps_evidence.specs.UnansweredLaw as unanswered_law
use Rattle.rtps_evidence.specs.declared.location.Location.{Location}
use Rattle.rtps_evidence.proofs.ActOrder.{Before, Each, NotAfter, all_earlier, all_later, each_weaker, is_before as before_first, is_not_before, none_earlier, order_left, order_rest, order_right, precedes, same_place}
use Rattle.rtps_evidence.proofs.QuestionLemmas.{answer_has_base}
use Rattle.rtps_evidence.proofs.SilenceLemmas.{stays_told, told_twice}

-- ---- tests

and_no : (b : Bool) → (b && false) ≡ false
and_no b = grind (arith, nat_tests)

or_true : (b : Bool) → (b || true) ≡ true
or_true b = grind (arith, nat_tests)

or_no : (b : Bool) → (b || false) ≡ b
or_no b = grind (arith, nat_tests)

never : (a b : Bool) → (a && (b && false)) ≡ true → false ≡ true
never a b h = grind (arith, nat_tests)

-- none of these passes
abbrev NoneOf : (placed.PlacedValue → Bool) → List placed.PlacedValue → Type 0
NoneOf test xs = Each (λ (x : placed.PlacedValue). test x ≡ false) xs

none_left : (test : placed.PlacedValue → Bool) (xs : List placed.PlacedValue) → find test xs ≡ None → NoneOf test xs
none_left test [] found = tt
none_left test (x ∷ xs) found = by (λ more. none_left test xs more) (test x) refl found
  where
    by : (find test xs ≡ None → NoneOf test xs) → (b : Bool) → test x ≡ b → cond b (Some x) (find test xs) ≡ None → (test x ≡ false) × NoneOf test xs
    by onward true is found = absurd (let no : Some x ≡ None = found in cc)
    by onward false is found = (is, onward found)

-- a list at the first that passes
record SplitAt (test : placed.PlacedValue → Bool) (xs : List placed.PlacedValue) (g : placed.PlacedValue) : Type 0 where
  before : List placed.PlacedValue
  rest : List placed.PlacedValue
  is : xs ≡ before ++ g ∷ rest
  none : NoneOf test before
  passes : test g ≡ true

split : (test : placed.PlacedValue → Bool) (xs : List placed.PlacedValue) (g : placed.PlacedValue) → find test xs ≡ Some g → SplitAt test xs g
split test [] g found = absurd (let no : None ≡ Some g = found in cc)
split test (x ∷ xs) g found = by (λ more. split test xs g more) (test x) refl found
  where
    by : (find test xs ≡ Some g → SplitAt test xs g) → (b : Bool) → test x ≡ b → cond b (Some x) (find test xs) ≡ Some g → SplitAt test (x ∷ xs) g
    by onward true is found =
        let same : x ≡ g = (let e : Some x ≡ Some g = found in cc) in
        record { before = []; rest = xs; is = ap (λ y. y ∷ xs) same; none = tt; passes = sym (ap test same) ∙ is }
    by onward false is found =
        let there = onward found in
        record { before = x ∷ there.before; rest = there.rest; is = ap (λ l. x ∷ l) there.is; none = (is, there.none); passes = there.passes }

none_kept : (test : placed.PlacedValue → Bool) (xs : List placed.PlacedValue) → NoneOf test xs → filter test xs ≡ []
none_kept test [] none = refl
none_kept test (x ∷ xs) (out, rest) = ap (λ b. cond b (x ∷ filter test xs) (filter test xs)) out ∙ none_kept test xs rest

abbrev first_item : List placed.PlacedValue → Option placed.PlacedValue
first_item [] = None
first_item (x ∷ xs) = Some x

find_kept : (test : placed.PlacedValue → Bool) (xs : List placed.PlacedValue) → find test xs ≡ first_item (filter test xs)
find_kept test [] = refl
find_kept test (x ∷ xs) = by (test x) (find_kept test xs)
  where
    by : (b : Bool) → find test xs ≡ first_item (filter test xs) → cond b (Some x) (find test xs) ≡ first_item (cond b (x ∷ filter test xs) (filter test xs))
    by true e = refl
    by false e = e

any_kept : (test : placed.PlacedValue → Bool) (xs : List placed.PlacedValue) → list_any test xs ≡ is_some (first_item (filter test xs))
any_kept test [] = refl
any_kept test (x ∷ xs) = by (test x) (any_kept test xs)
  where
    by : (b : Bool) → list_any test xs ≡ is_some (first_item (filter test xs)) → (b || list_any test xs) ≡ is_some (first_item (cond b (x ∷ filter test xs) (filter test xs)))
    by true e = refl
    by false e = e

some_length : (xs : List placed.PlacedValue) → is_some (first_item xs) ≡ true → 1 ≤ length xs
some_length xs h = grind (arith, nat_tests)

length_some : (xs : List placed.PlacedValue) → 1 ≤ length xs → is_some (first_item xs) ≡ true
length_some xs h = grind (arith, nat_tests)

-- ---- acts

answer_unspoken : (reader writer : Guid) (x : placed.PlacedValue) → receiver_speech.is_answer x.act reader writer ≡ true → receiver_speech.is_spoken_by x.act writer ≡ false
answer_unspoken reader writer x is = grind (arith, nat_tests)

other_unspoken : (writer : Guid) (x : placed.PlacedValue) → placed.is_from writer x ≡ false → receiver_speech.is_spoken_by x.act writer ≡ false
other_unspoken writer x from = search rules

answer_whole : (reader writer : Guid) (x : placed.PlacedValue) → receiver_speech.is_answer x.act reader writer ≡ true → unanswered_law.is_data_frag x.act.body ≡ false
answer_whole reader writer x is = grind (arith, nat_tests)

gone_whole : (writer reader : Guid) (n : ℕ) (x : placed.PlacedValue) → received.withdraws writer reader n x ≡ true → unanswered_law.is_data_frag x.act.body ≡ false
gone_whole writer reader n x is = grind (arith, nat_tests)

asks_whole : (since : Option Location) (pair : Pair) (n : ℕ) (x : placed.PlacedValue) → unanswered_law.asks_about since pair n x ≡ true → unanswered_law.is_data_frag x.act.body ≡ false
asks_whole since pair n x is = grind (arith, nat_tests)

-- ---- answers among acts

record AnswersAt (pair : Pair) (x : placed.PlacedValue) (xs : List placed.PlacedValue) : Type 0 where
  answer : Answer
  is : placed.answers_among pair (x ∷ xs) ≡ answer ∷ placed.answers_among pair xs
  place : questions.place_of answer ≡ locations.location_of x

answer_first : (pair : Pair) (x : placed.PlacedValue) (xs : List placed.PlacedValue) → receiver_speech.is_answer x.act pair.reader pair.writer ≡ true → AnswersAt pair x xs
answer_first pair x xs is = by (audit_speech.base_for pair.writer pair.reader x.act) refl (answer_has_base pair.writer pair.reader x.act.source x.act.dest x.act.body ∙ is)
  where
    by : (base : Option ℕ) → audit_speech.base_for pair.writer pair.reader x.act ≡ base → is_some (audit_speech.base_for pair.writer pair.reader x.act) ≡ true → AnswersAt pair x xs
    by None at has = absurd (let no : false ≡ true = sym (ap is_some at) ∙ has in cc)
    by (Some base) at has = record {
      answer = record { datagram = x.datagram; at = x.act.at; base = pos base };
      is = ap (λ o. cons_option (placed.answer_at x.datagram x.act.at o) (placed.answers_among pair xs)) at;
      place = refl;
    }

answer_past : (pair : Pair) (x : placed.PlacedValue) (xs : List placed.PlacedValue) → receiver_speech.is_answer x.act pair.reader pair.writer ≡ false → placed.answers_among pair (x ∷ xs) ≡ placed.answers_among pair xs
answer_past pair x xs is = grind (arith, nat_tests)

-- those that stand at no place before one are left there
record Stay (place : Location) (answers : List Answer) : Type 0 where
  left : outcomes.answers_left place answers ≡ answers
  none : outcomes.is_answered place answers ≡ false

first_stays : (place : Location) (answer : Answer) (answers : List Answer) → precedes (questions.place_of answer) place ≡ false → Stay place (answer ∷ answers)
first_stays place answer answers out = record { left = ap (λ b. cond b (outcomes.answers_left place answers) (answer ∷ answers)) out; none = out }

answers_stay : (pair : Pair) (place : Location) (xs : List placed.PlacedValue) → Each (λ (y : placed.PlacedValue). NotAfter place (locations.location_of y)) xs → Stay place (placed.answers_among pair xs)
answers_stay pair place [] later = record { left = refl; none = refl }
answers_stay pair place (x ∷ xs) (here, later) = by (receiver_speech.is_answer x.act pair.reader pair.writer) refl (answers_stay pair place xs later)
  where
    by : (b : Bool) → receiver_speech.is_answer x.act pair.reader pair.writer ≡ b → Stay place (placed.answers_among pair xs) → Stay place (placed.answers_among pair (x ∷ xs))
    by true is stay =
        let at = answer_first pair x xs is in
        subst (Stay place) (sym at.is) (first_stays place at.answer (placed.answers_among pair xs) (ap (λ p. precedes p place) at.place ∙ is_not_before place (locations.location_of x) here))
    by false is stay = subst (Stay place) (sym (answer_past pair x xs is)) stay

-- behind the answers that wait, at the place of an act: what is left of them and whether there are some is known by those among these acts
record WaitsAt (pair : Pair) (answers : List Answer) (waits : Bool) (xs : List placed.PlacedValue) (y : placed.PlacedValue) : Type 0 where
  left : outcomes.answers_left (locations.location_of y) answers ≡ outcomes.answers_left (locations.location_of y) (placed.answers_among pair xs)
  some : outcomes.is_answered (locations.location_of y) answers ≡ (waits || outcomes.is_answered (locations.location_of y) (placed.answers_among pair xs))

abbrev Waits : Pair → List Answer → Bool → List placed.PlacedValue → Type 0
Waits pair answers waits xs = Each (λ (y : placed.PlacedValue). WaitsAt pair answers waits xs y) xs

none_waits : (pair : Pair) (all xs : List placed.PlacedValue) → Each (λ (y : placed.PlacedValue). WaitsAt pair (placed.answers_among pair all) false all y) xs
none_waits pair all [] = tt
none_waits pair all (x ∷ xs) = (record { left = refl; some = refl }, none_waits pair all xs)

passed : (answer : Answer) (answers : List Answer) (place : Location) → Before (questions.place_of answer) place → outcomes.answers_left place (answer ∷ answers) ≡ outcomes.answers_left place answers
passed answer answers place lt = ap (λ b. cond b (outcomes.answers_left place answers) (answer ∷ answers)) (before_first (questions.place_of answer) place lt)

-- the answer at an act waits behind it, with those before
one_waits : (pair : Pair) (x : placed.PlacedValue) (xs : List placed.PlacedValue) (answers : List Answer) (waits : Bool) (y : placed.PlacedValue) → receiver_speech.is_answer x.act pair.reader pair.writer ≡ true → Before (locations.location_of x) (locations.location_of y)
    → WaitsAt pair answers waits (x ∷ xs) y → WaitsAt pair answers true xs y
one_waits pair x xs answers waits y is lt at =
    let first = answer_first pair x xs is in
    let earlier : Before (questions.place_of first.answer) (locations.location_of y) = subst (λ p. Before p (locations.location_of y)) (sym first.place) lt in
    record {
      left = at.left ∙ ap (outcomes.answers_left (locations.location_of y)) first.is ∙ passed first.answer (placed.answers_among pair xs) (locations.location_of y) earlier;
      some = at.some ∙ ap (λ l. waits || outcomes.is_answered (locations.location_of y) l) first.is ∙ ap (λ b. waits || b) (before_first (questions.place_of first.answer) (locations.location_of y) earlier) ∙ or_true waits;
    }

both_each : (P Q R : placed.PlacedValue → Type 0) → ((x : placed.PlacedValue) → P x → Q x → R x) → (xs : List placed.PlacedValue) → Each P xs → Each Q xs → Each R xs
both_each P Q R h [] ps qs = tt
both_each P Q R h (x ∷ xs) (p, ps) (q, qs) = (h x p q, both_each P Q R h xs ps qs)

answer_waits : (pair : Pair) (x : placed.PlacedValue) (xs : List placed.PlacedValue) (answers : List Answer) (waits : Bool) → receiver_speech.is_answer x.act pair.reader pair.writer ≡ true → unanswered_law.AreInOrder (x ∷ xs)
    → Each (λ (y : placed.PlacedValue). WaitsAt pair answers waits (x ∷ xs) y) xs → Waits pair answers true xs
answer_waits pair x xs answers waits is order all =
    both_each (λ (y : placed.PlacedValue). Before (locations.location_of x) (locations.location_of y)) (λ (y : placed.PlacedValue). WaitsAt pair answers waits (x ∷ xs) y) (λ (y : placed.PlacedValue). WaitsAt pair answers true xs y)
    (λ y lt at. one_waits pair x xs answers waits y is lt at) xs (all_later x xs order (answer_whole pair.reader pair.writer x is)) all

same_waits : (pair : Pair) (x : placed.PlacedValue) (xs : List placed.PlacedValue) (answers : List Answer) (waits : Bool) → receiver_speech.is_answer x.act pair.reader pair.writer ≡ false
    → Each (λ (y : placed.PlacedValue). WaitsAt pair answers waits (x ∷ xs) y) xs → Waits pair answers waits xs
same_waits pair x xs answers waits is all =
    each_weaker (λ (y : placed.PlacedValue). WaitsAt pair answers waits (x ∷ xs) y) (λ (y : placed.PlacedValue). WaitsAt pair answers waits xs y)
    (λ y at. record { left = at.left ∙ ap (outcomes.answers_left (locations.location_of y)) (answer_past pair x xs is); some = at.some ∙ ap (λ l. waits || outcomes.is_answered (locations.location_of y) l) (answer_past pair x xs is) }) xs all

-- ---- how far it came, in one walk over all acts

answered_twice : (s : outcomes.Silence) → outcomes.answered (outcomes.answered s) ≡ outcomes.answered s
answered_twice s = grind (arith, nat_tests)

silent_answered : (s : outcomes.Silence) → outcomes.is_silent (outcomes.answered s) ≡ outcomes.is_silent s
silent_answered s = grind (arith, nat_tests)

silent_asked : (datagram : ℕ) (s : outcomes.Silence) → outcomes.is_silent (outcomes.asked_about datagram s) ≡ outcomes.is_silent s
silent_asked datagram s = grind (arith, nat_tests)

told_answered : (times : List (Option ℕ)) (datagram : ℕ) (s : outcomes.Silence) → outcomes.answered (outcomes.told_gone times datagram s) ≡ outcomes.told_gone times datagram s
told_answered times datagram s = grind (arith, nat_tests)

silent_if : (b : Bool) → outcomes.is_silent (cond b outcomes.Silence.Silent outcomes.Silence.Ended) ≡ b
silent_if true = refl
silent_if false = refl

module _ (times : List (Option ℕ)) (since : Option Location) (pair : Pair) (n : ℕ) where
  abbrev goes : placed.PlacedValue → Bool
  goes x = received.withdraws pair.writer pair.reader n x

  abbrev asks : placed.PlacedValue → Bool
  asks x = unanswered_law.asks_about since pair n x

  abbrev answers : placed.PlacedValue → Bool
  answers x = receiver_speech.is_answer x.act pair.reader pair.writer

  unspoken_stays : (x : placed.PlacedValue) → receiver_speech.is_spoken_by x.act pair.writer ≡ false → (goes x ≡ false) × (asks x ≡ false)
  unspoken_stays x out = grind (arith, nat_tests)

  gone_no_answer : (x : placed.PlacedValue) → goes x ≡ true → answers x ≡ false
  gone_no_answer x is = grind (arith, nat_tests)

  asks_no_answer : (x : placed.PlacedValue) → asks x ≡ true → answers x ≡ false
  asks_no_answer x is = grind (arith, nat_tests)

  unheard : (x : placed.PlacedValue) (s : outcomes.Silence) → goes x ≡ false → asks x ≡ false → outcomes.heard times since pair n x s ≡ s
  unheard x s out none = ap (λ b. cond b (outcomes.told_gone times x.datagram s) (cond (asks x) (outcomes.asked_about x.datagram s) s)) out ∙ ap (λ b. cond b (outcomes.asked_about x.datagram s) s) none

  abbrev step : placed.PlacedValue → outcomes.Silence → outcomes.Silence
  step x s = cond (answers x) (outcomes.answered s) (outcomes.heard times since pair n x s)

  abbrev merged : outcomes.Silence → List placed.PlacedValue → outcomes.Silence
  merged s [] = s
  merged s (x ∷ xs) = merged (step x s) xs

  abbrev walk_from : List Answer → outcomes.Silence → List placed.PlacedValue → Bool
  walk_from left s acts = outcomes.is_silent (outcomes.walked_all times since pair n (record { answers = left; silence = s }) acts).silence

  abbrev Alike : List placed.PlacedValue → Type 0
  Alike xs = (left : List Answer) (waits : Bool) (s : outcomes.Silence) → Waits pair left waits xs → walk_from left s (filter (placed.is_from pair.writer) xs) ≡ outcomes.is_silent (merged (cond waits (outcomes.answered s) s) xs)

  alike_step : (x : placed.PlacedValue) (xs : List placed.PlacedValue) (left : List Answer) (waits : Bool) (s : outcomes.Silence) → unanswered_law.AreInOrder (x ∷ xs) → Waits pair left waits (x ∷ xs) → Alike xs
      → walk_from left s (filter (placed.is_from pair.writer) (x ∷ xs)) ≡ outcomes.is_silent (merged (step x (cond waits (outcomes.answered s) s)) xs)
  alike_step x xs left waits s order (here, rest) onward = by (placed.is_from pair.writer x) refl (answers x) refl
    where
      t : outcomes.Silence
      t = cond waits (outcomes.answered s) s

      kept : List placed.PlacedValue
      kept = filter (placed.is_from pair.writer) xs

      stay : Stay (locations.location_of x) (placed.answers_among pair (x ∷ xs))
      stay = answers_stay pair (locations.location_of x) (x ∷ xs) (same_place (locations.location_of x), none_earlier x xs order)

      walk_is : placed.is_from pair.writer x ≡ true → walk_from left s (filter (placed.is_from pair.writer) (x ∷ xs)) ≡ walk_from (placed.answers_among pair (x ∷ xs)) (outcomes.heard times since pair n x t) kept
      walk_is from =
          ap (λ b. walk_from left s (cond b (x ∷ kept) kept)) from
          ∙ ap (λ l. walk_from l (outcomes.heard times since pair n x (cond (outcomes.is_answered (locations.location_of x) left) (outcomes.answered s) s)) kept) (here.left ∙ stay.left)
          ∙ ap (λ b. walk_from (placed.answers_among pair (x ∷ xs)) (outcomes.heard times since pair n x (cond b (outcomes.answered s) s)) kept) (here.some ∙ ap (λ b. waits || b) stay.none ∙ or_no waits)

      walk_past : placed.is_from pair.writer x ≡ false → walk_from left s (filter (placed.is_from pair.writer) (x ∷ xs)) ≡ walk_from left s kept
      walk_past from = ap (λ b. walk_from left s (cond b (x ∷ kept) kept)) from

      once_more : (b : Bool) → outcomes.answered (cond b (outcomes.answered s) s) ≡ outcomes.answered s
      once_more true = answered_twice s
      once_more false = refl

      by : (from : Bool) → placed.is_from pair.writer x ≡ from → (answer : Bool) → answers x ≡ answer → walk_from left s (filter (placed.is_from pair.writer) (x ∷ xs)) ≡ outcomes.is_silent (merged (step x t) xs)
      by true from true answer =
          let out = unspoken_stays x (answer_unspoken pair.reader pair.writer x answer) in
          walk_is from
          ∙ ap (λ u. walk_from (placed.answers_among pair (x ∷ xs)) u kept) (unheard x t out.0 out.1)
          ∙ onward (placed.answers_among pair (x ∷ xs)) true t (answer_waits pair x xs (placed.answers_among pair (x ∷ xs)) false answer order (none_waits pair (x ∷ xs) xs))
          ∙ ap (λ b. outcomes.is_silent (merged (cond b (outcomes.answered t) (outcomes.heard times since pair n x t)) xs)) (sym answer)
      by true from false answer =
          walk_is from
          ∙ onward (placed.answers_among pair (x ∷ xs)) false (outcomes.heard times since pair n x t) (same_waits pair x xs (placed.answers_among pair (x ∷ xs)) false answer (none_waits pair (x ∷ xs) xs))
          ∙ ap (λ b. outcomes.is_silent (merged (cond b (outcomes.answered t) (outcomes.heard times since pair n x t)) xs)) (sym answer)
      by false from true answer =
          walk_past from
          ∙ onward left true s (answer_waits pair x xs left waits answer order rest)
          ∙ ap (λ u. outcomes.is_silent (merged u xs)) (sym (once_more waits))
          ∙ ap (λ b. outcomes.is_silent (merged (cond b (outcomes.answered t) (outcomes.heard times since pair n x t)) xs)) (sym answer)
      by false from false answer =
          let out = unspoken_stays x (other_unspoken pair.writer x from) in
          walk_past from
          ∙ onward left waits s (same_waits pair x xs left waits answer rest)
          ∙ ap (λ u. outcomes.is_silent (merged u xs)) (sym (unheard x t out.0 out.1))
          ∙ ap (λ b. outcomes.is_silent (merged (cond b (outcomes.answered t) (outcomes.heard times since pair n x t)) xs)) (sym answer)

  alike : (xs : List placed.PlacedValue) → unanswered_law.AreInOrder xs → Alike xs
  alike [] order left waits s all = by waits
    where
      by : (b : Bool) → outcomes.is_silent s ≡ outcomes.is_silent (cond b (outcomes.answered s) s)
      by true = sym (silent_answered s)
      by false = refl
  alike (x ∷ xs) order left waits s all = alike_step x xs left waits s order all (alike xs (order_rest x xs order))

  walk_is_merged : (acts : List placed.PlacedValue) → unanswered_law.AreInOrder acts → outcomes.is_unanswered times since pair acts n ≡ outcomes.is_silent (merged outcomes.Silence.Unasked acts)
  walk_is_merged acts order = alike acts order (placed.answers_among pair acts) false outcomes.Silence.Unasked (none_waits pair acts acts)

  -- ---- where none tells it gone

  stepped : (x : placed.PlacedValue) (s : outcomes.Silence) → goes x ≡ false → step x s ≡ cond (answers x) (outcomes.answered s) (cond (asks x) (outcomes.asked_about x.datagram s) s)
  stepped x s out = ap (λ b. cond (answers x) (outcomes.answered s) (cond b (outcomes.told_gone times x.datagram s) (cond (asks x) (outcomes.asked_about x.datagram s) s))) out

  quiet : (s : outcomes.Silence) (xs : List placed.PlacedValue) → NoneOf goes xs → outcomes.is_silent (merged s xs) ≡ outcomes.is_silent s
  quiet s [] none = refl
  quiet s (x ∷ xs) (out, none) = quiet (step x s) xs none ∙ ap outcomes.is_silent (stepped x s out) ∙ by (answers x) (asks x)
    where
      by : (a q : Bool) → outcomes.is_silent (cond a (outcomes.answered s) (cond q (outcomes.asked_about x.datagram s) s)) ≡ outcomes.is_silent s
      by true q = silent_answered s
      by false true = silent_asked x.datagram s
      by false false = refl

  stays_unasked : (xs : List placed.PlacedValue) → NoneOf goes xs → NoneOf asks xs → merged outcomes.Silence.Unasked xs ≡ outcomes.Silence.Unasked
  stays_unasked [] none unasked = refl
  stays_unasked (x ∷ xs) (out, none) (unasked, rest) =
      ap (λ s. merged s xs) (stepped x outcomes.Silence.Unasked out ∙ ap (λ q. cond (answers x) outcomes.Silence.Unasked (cond q (outcomes.Silence.Once x.datagram) outcomes.Silence.Unasked)) unasked ∙ by (answers x)) ∙ stays_unasked xs none rest
    where
      by : (a : Bool) → cond a outcomes.Silence.Unasked outcomes.Silence.Unasked ≡ outcomes.Silence.Unasked
      by true = refl
      by false = refl

  -- whether it ends in silence where it is told gone by an act
  abbrev ends : placed.PlacedValue → outcomes.Silence → Bool
  ends g s = outcomes.is_silent (outcomes.told_gone times g.datagram s)

  -- that act comes long behind a datagram
  abbrev late : placed.PlacedValue → ℕ → Bool
  late g asked = times_spec.is_long_between times asked g.datagram

  stays_answered : (xs : List placed.PlacedValue) → NoneOf goes xs → merged outcomes.Silence.Answered xs ≡ outcomes.Silence.Answered
  stays_answered [] none = refl
  stays_answered (x ∷ xs) (out, none) = ap (λ s. merged s xs) (stepped x outcomes.Silence.Answered out ∙ by (answers x) (asks x)) ∙ stays_answered xs none
    where
      by : (a q : Bool) → cond a outcomes.Silence.Answered (cond q outcomes.Silence.Answered outcomes.Silence.Answered) ≡ outcomes.Silence.Answered
      by true q = refl
      by false true = refl
      by false false = refl

  from_again : (g : placed.PlacedValue) (asked : ℕ) (xs : List placed.PlacedValue) → NoneOf goes xs → ends g (merged (outcomes.Silence.Again asked) xs) ≡ (not (list_any answers xs) && late g asked)
  from_again g asked [] none = silent_if (late g asked)
  from_again g asked (x ∷ xs) (out, none) = ap (λ s. ends g (merged s xs)) (stepped x (outcomes.Silence.Again asked) out) ∙ by (answers x) (asks x) (from_again g asked xs none)
    where
      by : (a q : Bool) → ends g (merged (outcomes.Silence.Again asked) xs) ≡ (not (list_any answers xs) && late g asked) → ends g (merged (cond a outcomes.Silence.Answered (cond q (outcomes.Silence.Again asked) (outcomes.Silence.Again asked))) xs) ≡ (not (a || list_any answers xs) && late g asked)
      by true q rest = ap (ends g) (stays_answered xs none)
      by false true rest = rest
      by false false rest = rest

  from_once : (g : placed.PlacedValue) (asked : ℕ) (xs : List placed.PlacedValue) → NoneOf goes xs → ends g (merged (outcomes.Silence.Once asked) xs) ≡ ((list_any asks xs && not (list_any answers xs)) && late g asked)
  from_once g asked [] none = refl
  from_once g asked (x ∷ xs) (out, none) = ap (λ s. ends g (merged s xs)) (stepped x (outcomes.Silence.Once asked) out) ∙ by (answers x) (asks x) (from_once g asked xs none)
    where
      by : (a q : Bool) → ends g (merged (outcomes.Silence.Once asked) xs) ≡ ((list_any asks xs && not (list_any answers xs)) && late g asked)
          → ends g (merged (cond a outcomes.Silence.Answered (cond q (outcomes.Silence.Again asked) (outcomes.Silence.Once asked))) xs) ≡ (((q || list_any asks xs) && not (a || list_any answers xs)) && late g asked)
      by true q rest = ap (ends g) (stays_answered xs none) ∙ sym (ap (λ b. b && late g asked) (and_no (q || list_any asks xs)))
      by false true rest = from_again g asked xs none
      by false false rest = rest

  -- ---- up to the first act that tells it gone, and behind it

  merged_on : (s : outcomes.Silence) (xs ys : List placed.PlacedValue) → merged s (xs ++ ys) ≡ merged (merged s xs) ys
  merged_on s [] ys = refl
  merged_on s (x ∷ xs) ys = merged_on (step x s) xs ys

  stays_gone : (datagram : ℕ) (s : outcomes.Silence) (xs : List placed.PlacedValue) → merged (outcomes.told_gone times datagram s) xs ≡ outcomes.told_gone times datagram s
  stays_gone datagram s [] = refl
  stays_gone datagram s (x ∷ xs) = ap (λ t. merged t xs) (by (answers x) (goes x) (asks x)) ∙ stays_gone datagram s xs
    where
      by : (a w q : Bool)
          → cond a (outcomes.answered (outcomes.told_gone times datagram s)) (cond w (outcomes.told_gone times x.datagram (outcomes.told_gone times datagram s)) (cond q (outcomes.asked_about x.datagram (outcomes.told_gone times datagram s)) (outcomes.told_gone times datagram s))) ≡ outcomes.told_gone times datagram s
      by true w q = told_answered times datagram s
      by false true q = told_twice times datagram x.datagram s
      by false false true = stays_told times datagram x.datagram s
      by false false false = refl

  told_at : (s : outcomes.Silence) (before : List placed.PlacedValue) (g : placed.PlacedValue) (rest : List placed.PlacedValue) → goes g ≡ true → outcomes.is_silent (merged s (before ++ g ∷ rest)) ≡ ends g (merged s before)
  told_at s before g rest is = ap outcomes.is_silent (merged_on s before (g ∷ rest) ∙ ap (λ t. merged t rest) (here (merged s before)) ∙ stays_gone g.datagram (merged s before) rest)
    where
      here : (t : outcomes.Silence) → step g t ≡ outcomes.told_gone times g.datagram t
      here t =
          ap (λ b. cond b (outcomes.answered t) (outcomes.heard times since pair n g t)) (gone_no_answer g is)
          ∙ ap (λ b. cond b (outcomes.told_gone times g.datagram t) (cond (asks g) (outcomes.asked_about g.datagram t) t)) is

  asked_at : (g : placed.PlacedValue) (one : List placed.PlacedValue) (q : placed.PlacedValue) (two : List placed.PlacedValue) → NoneOf goes (one ++ q ∷ two) → NoneOf asks one → asks q ≡ true
      → ends g (merged outcomes.Silence.Unasked (one ++ q ∷ two)) ≡ ((list_any asks two && not (list_any answers two)) && late g q.datagram)
  asked_at g one q two none unasked is =
      let parts = none_both one (q ∷ two) none in
      let at = parts.1 in
      ap (ends g) (merged_on outcomes.Silence.Unasked one (q ∷ two) ∙ ap (λ t. merged (step q t) two) (stays_unasked one parts.0 unasked) ∙ ap (λ t. merged t two) (here at.0))
      ∙ from_once g q.datagram two at.1
    where
      none_both : (xs ys : List placed.PlacedValue) → NoneOf goes (xs ++ ys) → NoneOf goes xs × NoneOf goes ys
      none_both [] ys none = (tt, none)
      none_both (x ∷ xs) ys (out, none) = let more = none_both xs ys none in ((out, more.0), more.1)

      here : goes q ≡ false → step q outcomes.Silence.Unasked ≡ outcomes.Silence.Once q.datagram
      here out = stepped q outcomes.Silence.Unasked out ∙ ap (λ a. cond a outcomes.Silence.Unasked (cond (asks q) (outcomes.Silence.Once q.datagram) outcomes.Silence.Unasked)) (asks_no_answer q is) ∙ ap (λ b. cond b (outcomes.Silence.Once q.datagram) outcomes.Silence.Unasked) is

-- ---- by places

none_there : (test : placed.PlacedValue → Bool) (place : Location) (xs : List placed.PlacedValue) → Each (λ (y : placed.PlacedValue). NotAfter place (locations.location_of y)) xs → filter (λ x. locations.is_before place x && test x) xs ≡ []
none_there test place xs later = grind (arith, nat_tests, common_steps, none_kept, each_weaker, NotAfter, is_not_before)

kept_before : (test : placed.PlacedValue → Bool) (place : Location) (before rest : List placed.PlacedValue) → Each (λ (y : placed.PlacedValue). Before (locations.location_of y) place) before → Each (λ (y : placed.PlacedValue). NotAfter place (locations.location_of y)) rest
    → filter (λ x. locations.is_before place x && test x) (before ++ rest) ≡ filter test before
kept_before test place [] rest earlier later = none_there test place rest later
kept_before test place (x ∷ xs) rest (lt, earlier) later =
    ap (λ b. cond (b && test x) (x ∷ filter (λ y. locations.is_before place y && test y) (xs ++ rest)) (filter (λ y. locations.is_before place y && test y) (xs ++ rest))) (before_first (locations.location_of x) place lt)
    ∙ ap (λ l. cond (test x) (x ∷ l) l) (kept_before test place xs rest earlier later)

-- what stands before the first act that tells it gone
found_before : (pair : Pair) (n : ℕ) (test : placed.PlacedValue → Bool) (before : List placed.PlacedValue) (g : placed.PlacedValue) (rest : List placed.PlacedValue) → received.withdraws pair.writer pair.reader n g ≡ true → unanswered_law.AreInOrder (before ++ g ∷ rest)
    → filter (λ x. locations.is_before (locations.location_of g) x && test x) (before ++ g ∷ rest) ≡ filter test before
found_before pair n test before g rest is order =
    kept_before test (locations.location_of g) before (g ∷ rest) (all_earlier before g rest (gone_whole pair.writer pair.reader n g is) order)
    (same_place (locations.location_of g), none_earlier g rest (order_right before (g ∷ rest) order))

-- what stands behind the first question
abbrev answers_from : Pair → Location → placed.PlacedValue → Bool
answers_from pair place x = not (locations.is_before place x) && receiver_speech.is_answer x.act pair.reader pair.writer

none_answers : (pair : Pair) (place : Location) (xs : List placed.PlacedValue) → Each (λ (y : placed.PlacedValue). Before (locations.location_of y) place) xs → list_any (answers_from pair place) xs ≡ false
none_answers pair place [] earlier = refl
none_answers pair place (x ∷ xs) (lt, earlier) =
    ap (λ b. (not b && receiver_speech.is_answer x.act pair.reader pair.writer) || list_any (answers_from pair place) xs) (before_first (locations.location_of x) place lt) ∙ none_answers pair place xs earlier

all_answers : (pair : Pair) (place : Location) (xs : List placed.PlacedValue) → Each (λ (y : placed.PlacedValue). NotAfter place (locations.location_of y)) xs → list_any (answers_from pair place) xs ≡ list_any (λ (x : placed.PlacedValue). receiver_speech.is_answer x.act pair.reader pair.writer) xs
all_answers pair place [] later = refl
all_answers pair place (x ∷ xs) (le, later) =
    ap (λ b. (not b && receiver_speech.is_answer x.act pair.reader pair.writer) || list_any (answers_from pair place) xs) (is_not_before place (locations.location_of x) le)
    ∙ ap (λ b. receiver_speech.is_answer x.act pair.reader pair.writer || b) (all_answers pair place xs later)

answered_behind : (since : Option Location) (pair : Pair) (n : ℕ) (one : List placed.PlacedValue) (q : placed.PlacedValue) (two : List placed.PlacedValue) → unanswered_law.asks_about since pair n q ≡ true → unanswered_law.AreInOrder (one ++ q ∷ two)
    → list_any (answers_from pair (locations.location_of q)) (one ++ q ∷ two) ≡ list_any (λ (x : placed.PlacedValue). receiver_speech.is_answer x.act pair.reader pair.writer) two
answered_behind since pair n one q two is order =
    list_any-append (answers_from pair (locations.location_of q)) one (q ∷ two)
    ∙ ap (λ b. b || list_any (answers_from pair (locations.location_of q)) (q ∷ two)) (none_answers pair (locations.location_of q) one (all_earlier one q two (asks_whole since pair n q is) order))
    ∙ ap (λ b. (not (locations.is_before (locations.location_of q) q) && b) || list_any (answers_from pair (locations.location_of q)) two) (asks_no_answer [] since pair n q is)
    ∙ ap (λ b. b || list_any (answers_from pair (locations.location_of q)) two) (and_no (not (locations.is_before (locations.location_of q) q)))
    ∙ all_answers pair (locations.location_of q) two (none_earlier q two (order_right one (q ∷ two) order))

-- ---- the words

-- acts, cut at the first that tells n gone, and at the first before it that asks about n
record Cut (times : List (Option ℕ)) (since : Option Location) (pair : Pair) (acts : List placed.PlacedValue) (n : ℕ) (g q : placed.PlacedValue) : Type 0 where
  one : List placed.PlacedValue
  two : List placed.PlacedValue
  rest : List placed.PlacedValue
  is : acts ≡ (one ++ q ∷ two) ++ g ∷ rest
  none : NoneOf (received.withdraws pair.writer pair.reader n) (one ++ q ∷ two)
  gone : received.withdraws pair.writer pair.reader n g ≡ true
  unasked : NoneOf (unanswered_law.asks_about since pair n) one
  asks : unanswered_law.asks_about since pair n q ≡ true

-- what is so of them
record Facts (times : List (Option ℕ)) (since : Option Location) (pair : Pair) (acts : List placed.PlacedValue) (n : ℕ) (g q : placed.PlacedValue) (two : List placed.PlacedValue) : Type 0 where
  walk : outcomes.is_unanswered times since pair acts n
      ≡ ((list_any (unanswered_law.asks_about since pair n) two && not (list_any (λ (x : placed.PlacedValue). receiver_speech.is_answer x.act pair.reader pair.writer) two)) && times_spec.is_long_between times q.datagram g.datagram)
  asked : length (filter (unanswered_law.asks_before (locations.location_of g) since pair n) acts) ≡ suc (length (filter (unanswered_law.asks_about since pair n) two))
  silent : list_any (unanswered_law.answers_between (locations.location_of q) (locations.location_of g) pair) acts ≡ list_any (λ (x : placed.PlacedValue). receiver_speech.is_answer x.act pair.reader pair.writer) two

facts_at : (times : List (Option ℕ)) (since : Option Location) (pair : Pair) (n : ℕ) (one : List placed.PlacedValue) (q : placed.PlacedValue) (two : List placed.PlacedValue) (g : placed.PlacedValue) (rest : List placed.PlacedValue) → NoneOf (received.withdraws pair.writer pair.reader n) (one ++ q ∷ two)
    → received.withdraws pair.writer pair.reader n g ≡ true → NoneOf (unanswered_law.asks_about since pair n) one → unanswered_law.asks_about since pair n q ≡ true → unanswered_law.AreInOrder ((one ++ q ∷ two) ++ g ∷ rest) → Facts times since pair ((one ++ q ∷ two) ++ g ∷ rest) n g q two
facts_at times since pair n one q two g rest none gone unasked is order =
    let before = one ++ q ∷ two in
    record {
      walk = walk_is_merged times since pair n (before ++ g ∷ rest) order ∙ told_at times since pair n outcomes.Silence.Unasked before g rest gone ∙ asked_at times since pair n g one q two none unasked is;
      asked =
          ap length (found_before pair n (unanswered_law.asks_about since pair n) before g rest gone order
          ∙ filter-append (unanswered_law.asks_about since pair n) one (q ∷ two)
          ∙ ap (λ l. l ++ filter (unanswered_law.asks_about since pair n) (q ∷ two)) (none_kept (unanswered_law.asks_about since pair n) one unasked)
          ∙ ap (λ b. cond b (q ∷ filter (unanswered_law.asks_about since pair n) two) (filter (unanswered_law.asks_about since pair n) two)) is);
      silent =
          any_kept (unanswered_law.answers_between (locations.location_of q) (locations.location_of g) pair) (before ++ g ∷ rest)
          ∙ ap (λ l. is_some (first_item l)) (found_before pair n (answers_from pair (locations.location_of q)) before g rest gone order)
          ∙ sym (any_kept (answers_from pair (locations.location_of q)) before)
          ∙ answered_behind since pair n one q two is (order_left before (g ∷ rest) order);
    }

facts : (times : List (Option ℕ)) (since : Option Location) (pair : Pair) (acts : List placed.PlacedValue) (n : ℕ) (g q : placed.PlacedValue) (cut : Cut times since pair acts n g q) → unanswered_law.AreInOrder acts → Facts times since pair acts n g q cut.two
facts times since pair acts n g q cut order =
    subst (λ l. Facts times since pair l n g q cut.two) (sym cut.is)
    (facts_at times since pair n cut.one q cut.two g cut.rest cut.none cut.gone cut.unasked cut.asks (subst unanswered_law.AreInOrder cut.is order))

cut_at : (times : List (Option ℕ)) (since : Option Location) (pair : Pair) (acts : List placed.PlacedValue) (n : ℕ) (g q : placed.PlacedValue) (at : SplitAt (received.withdraws pair.writer pair.reader n) acts g) → find (unanswered_law.asks_about since pair n) at.before ≡ Some q → Cut times since pair acts n g q
cut_at times since pair acts n g q at found =
    let first = split (unanswered_law.asks_about since pair n) at.before q found in
    record {
      one = first.before;
      two = first.rest;
      rest = at.rest;
      is = at.is ∙ ap (λ l. l ++ g ∷ at.rest) first.is;
      none = subst (NoneOf (received.withdraws pair.writer pair.reader n)) first.is at.none;
      gone = at.passes;
      unasked = first.none;
      asks = first.passes;
    }

-- the first that asks before the act
first_found : (times : List (Option ℕ)) (since : Option Location) (pair : Pair) (acts : List placed.PlacedValue) (n : ℕ) (g : placed.PlacedValue) (at : SplitAt (received.withdraws pair.writer pair.reader n) acts g) → unanswered_law.AreInOrder acts
    → find (unanswered_law.asks_before (locations.location_of g) since pair n) acts ≡ find (unanswered_law.asks_about since pair n) at.before
first_found times since pair acts n g at order =
    find_kept (unanswered_law.asks_before (locations.location_of g) since pair n) acts
    ∙ ap first_item (ap (filter (unanswered_law.asks_before (locations.location_of g) since pair n)) at.is ∙ found_before pair n (unanswered_law.asks_about since pair n) at.before g at.rest at.passes (subst unanswered_law.AreInOrder at.is order))
    ∙ sym (find_kept (unanswered_law.asks_about since pair n) at.before)

long_said : (one other : Option ℕ) (asked told : ℕ) → times_spec.is_long one other ≡ true → one ≡ Some asked → other ≡ Some told → asked + 10 ^ 8 ≤ told
long_said one other asked told h h2 h3 = grind (arith, nat_tests)

long_meant : (one other : Option ℕ) → ((asked told : ℕ) → one ≡ Some asked → other ≡ Some told → asked + 10 ^ 8 ≤ told) → times_spec.is_long one other ≡ true
long_meant None other h = refl
long_meant (Some asked) None h = refl
long_meant (Some asked) (Some told) h = let le = h asked told refl refl in grind (arith, nat_tests, le)

not_true : (b : Bool) → not b ≡ true → b ≡ false
not_true b h = grind (arith, nat_tests)

said : (times : List (Option ℕ)) (since : Option Location) (pair : Pair) (acts : List placed.PlacedValue) (n : ℕ) → unanswered_law.AreInOrder acts → outcomes.is_unanswered times since pair acts n ≡ true → unanswered_law.IsUnanswered times since pair acts n
said times since pair acts n order is = by (find (received.withdraws pair.writer pair.reader n) acts) refl
  where
    walk : outcomes.is_silent (merged times since pair n outcomes.Silence.Unasked acts) ≡ true
    walk = sym (walk_is_merged times since pair n acts order) ∙ is

    asked : (g : placed.PlacedValue) → find (received.withdraws pair.writer pair.reader n) acts ≡ Some g → (at : SplitAt (received.withdraws pair.writer pair.reader n) acts g) → (first : Option placed.PlacedValue) → find (unanswered_law.asks_about since pair n) at.before ≡ first
        → unanswered_law.IsUnanswered times since pair acts n
    asked g found at None none = absurd (
        let unasked = ap (ends times since pair n g) (stays_unasked times since pair n at.before at.none (none_left (unanswered_law.asks_about since pair n) at.before none)) in
        let told = ap (λ l. outcomes.is_silent (merged times since pair n outcomes.Silence.Unasked l)) at.is ∙ told_at times since pair n outcomes.Silence.Unasked at.before g at.rest at.passes in
        let no : true ≡ false = sym walk ∙ told ∙ unasked in cc)
    asked g found at (Some q) some =
        let cut = cut_at times since pair acts n g q at some in
        let so = facts times since pair acts n g q cut order in
        let asks : Bool = list_any (unanswered_law.asks_about since pair n) cut.two in
        let silent : Bool = not (list_any (λ (x : placed.PlacedValue). receiver_speech.is_answer x.act pair.reader pair.writer) cut.two) in
        let whole = and_parts (asks && silent) (times_spec.is_long_between times q.datagram g.datagram) (sym so.walk ∙ is) in
        let parts = and_parts asks silent whole.0 in
        let again = some_length (filter (unanswered_law.asks_about since pair n) cut.two) (sym (any_kept (unanswered_law.asks_about since pair n) cut.two) ∙ parts.0) in
        record {
          gone = g;
          is_gone = found;
          asked = (let size = so.asked in omega arith);
          first = q;
          is_first = first_found times since pair acts n g at order ∙ some;
          silent = so.silent ∙ not_true _ parts.1;
          long = λ one two at_one at_two. long_said (times_spec.time_of times q.datagram) (times_spec.time_of times g.datagram) one two whole.1 at_one at_two;
        }

    by : (gone : Option placed.PlacedValue) → find (received.withdraws pair.writer pair.reader n) acts ≡ gone → unanswered_law.IsUnanswered times since pair acts n
    by None none = absurd (
        let stays = quiet times since pair n outcomes.Silence.Unasked acts (none_left (received.withdraws pair.writer pair.reader n) acts none) in
        let no : true ≡ false = sym walk ∙ stays in cc)
    by (Some g) found = let at = split (received.withdraws pair.writer pair.reader n) acts g found in asked g found at (find (unanswered_law.asks_about since pair n) at.before) refl

meant : (times : List (Option ℕ)) (since : Option Location) (pair : Pair) (acts : List placed.PlacedValue) (n : ℕ) → unanswered_law.AreInOrder acts → unanswered_law.IsUnanswered times since pair acts n → outcomes.is_unanswered times since pair acts n ≡ true
meant times since pair acts n order words =
    let at = split (received.withdraws pair.writer pair.reader n) acts words.gone words.is_gone in
    let cut = cut_at times since pair acts n words.gone words.first at (sym (first_found times since pair acts n words.gone at order) ∙ words.is_first) in
    let so = facts times since pair acts n words.gone words.first cut order in
    let again : 1 ≤ length (filter (unanswered_law.asks_about since pair n) cut.two) = (let two = words.asked in let size = so.asked in omega arith) in
    so.walk
    ∙ ap (λ b. (b && not (list_any (λ (x : placed.PlacedValue). receiver_speech.is_answer x.act pair.reader pair.writer) cut.two)) && times_spec.is_long_between times words.first.datagram words.gone.datagram)
    (any_kept (unanswered_law.asks_about since pair n) cut.two ∙ length_some (filter (unanswered_law.asks_about since pair n) cut.two) again)
    ∙ ap (λ b. not b && times_spec.is_long_between times words.first.datagram words.gone.datagram) (sym so.silent ∙ words.silent)
    ∙ long_meant (times_spec.time_of times words.first.datagram) (times_spec.time_of times words.gone.datagram) words.long

pub unanswered_is_by_its_words : unanswered_law.UnansweredIsByItsWords
unanswered_is_by_its_words = λ times since pair acts n order. (λ is. said times since pair acts n order is, λ words. meant times since pair acts n order words)
