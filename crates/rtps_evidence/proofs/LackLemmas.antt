-- Where an answer lacks, by answers with their counts.
use Rattle.std.proofs.Common.{◌≡◌, ◌∙◌, ℕ, zero, suc, ◌+◌, ◌-◌, ◌<◌, ◌≤◌, ◌==◌, ◌&&◌, rules, Bool, true, false, cond, not, filter, get_or, length, take, List, [], ◌∷◌, ◌++◌, Option, Some, None, refl, sym, ap, arith, inl, inr}
use Rattle.std.specs.Prelude.{slice_get}
use Rattle.std.specs.List.{before_first, cons_option, filter_map, find, last_or, list_any}
use Rattle.std.specs.Option.{option_and_then}
use Rattle.std.proofs.lemmas.Bool.{and_parts, cases_lt}
use Rattle.std.proofs.lemmas.List.{take_more}
use Rattle.std.proofs.lemmas.Option.{slice_get-get_or}
use Rattle.rtps_ids.specs.declared.identity.Guid.{Guid}
use Rattle.rtps_discovery.specs.declared.matching.Pair.{Pair}
use Rattle.rtps_receiver.specs.Speech as speech
use Rattle.rtps_audit.specs.Placed as placed_spec
use Rattle.rtps_coverage.specs.Counts as counts
use Rattle.rtps_coverage.proofs.Offered.{count_none, count_same, count_split}
use Rattle.rtps_evidence.specs.CountedAnswers as counted_answers
use Rattle.rtps_evidence.specs.Locations as locations
use Rattle.rtps_evidence.specs.LostAnswers as lost_answers
use Rattle.rtps_evidence.specs.Waits as waits
use Rattle.rtps_evidence.specs.declared.counted_answers.CountedAnswer.{CountedAnswer}
use Rattle.rtps_evidence.specs.declared.location.Location.{Location}
use Rattle.rtps_evidence.proofs.AskingLemmas.{requester_is_origin}
use Rattle.rtps_evidence.proofs.FindLemmas.{any_filter, find_filter}
use Rattle.rtps_evidence.proofs.QuestionLemmas.{filter_filter}
use Rattle.rtps_evidence.proofs.SpanLemmas.{first_past, first_stops}
use Rattle.rtps_evidence.proofs.WaitLemmas.{none_first, none_weaker, not_behind}

-- ---- what stands in front of the first that passes

found_passes : {X : Type 0} (test : X → Bool) (xs : List X) (x : X) → find test xs ≡ Some x → test x ≡ true
found_passes test [] x found = absurd (let no : None ≡ Some x = found in cc)
found_passes {X} test (y ∷ ys) x found = by (found_passes test ys x) (test y) refl found
  where
    by : (find test ys ≡ Some x → test x ≡ true) → (b : Bool) → test y ≡ b → cond b (Some y) (find test ys) ≡ Some x → test x ≡ true
    by onward true is found = (let same : y ≡ x = (let e : Some y ≡ Some x = found in cc) in sym (ap test same) ∙ is)
    by onward false is found = onward found

none_in_front : {X : Type 0} (test : X → Bool) (x : X) (rest : Option X) → cond (test x) (Some x) rest ≡ None → (test x ≡ false) × (rest ≡ None)
none_in_front {X} test x rest none = by (test x) refl none
  where
    by : (b : Bool) → test x ≡ b → cond b (Some x) rest ≡ None → (test x ≡ false) × (rest ≡ None)
    by true is none = absurd (let no : Some x ≡ None = none in cc)
    by false is none = (is, none)

pub before_is_taken : {X : Type 0} (test : X → Bool) (xs : List X) (k : ℕ) → find test (take k xs) ≡ None → find test xs ≡ slice_get xs k → before_first test xs ≡ take k xs
before_is_taken test [] zero none found = refl
before_is_taken test [] (suc k) none found = refl
before_is_taken test (x ∷ xs) zero none found = first_stops test x xs (found_passes test (x ∷ xs) x found)
before_is_taken test (x ∷ xs) (suc k) none found =
    let parts = none_in_front test x (find test (take k xs)) none in
    first_past test x xs parts.0 ∙ ap (λ l. x ∷ l) (before_is_taken test xs k parts.1 (sym (ap (λ b. cond b (Some x) (find test xs)) parts.0) ∙ found))

-- ---- a walk over the answers

pub passed_counted_none : (counted : List CountedAnswer) (place : Location) → counted_answers.HasPassedCounted counted 0 place
passed_counted_none counted place = record { within = omega arith; none = none_first (counted_answers.stands_behind place) counted }

pub passed_counted_on : (counted : List CountedAnswer) (passed : ℕ) (one other : Location) → waits.precedes other one ≡ false → counted_answers.HasPassedCounted counted passed one → counted_answers.HasPassedCounted counted passed other
passed_counted_on counted passed one other late has = record {
  within = has.within;
  none = none_weaker (counted_answers.stands_behind one) (counted_answers.stands_behind other) (λ answer out. not_behind one other answer.place late out) (take passed counted) has.none;
}

-- none is in front of the first one, and none behind the last
pub none_in_front_of : (counted : List CountedAnswer) (next : ℕ) → next ≡ 0 → false ≡ counted_answers.lacks_counted (last_or None (take next counted)) (slice_get counted next)
none_in_front_of counted next is = sym (ap (λ k. counted_answers.lacks_counted (last_or None (take k counted)) (slice_get counted k)) is ∙ by counted)
  where
    by : (xs : List CountedAnswer) → counted_answers.lacks_counted (last_or None (take 0 xs)) (slice_get xs 0) ≡ false
    by [] = refl
    by (x ∷ xs) = refl

pub none_at : (counted : List CountedAnswer) (next : ℕ) → length counted ≤ next → false ≡ counted_answers.lacks_counted (last_or None (take next counted)) (slice_get counted next)
none_at counted next past = sym (ap (counted_answers.lacks_counted (last_or None (take next counted))) (past_all counted next past) ∙ by (last_or None (take next counted)))
  where
    past_all : (xs : List CountedAnswer) (k : ℕ) → length xs ≤ k → slice_get xs k ≡ None
    past_all [] k le = refl
    past_all (x ∷ xs) zero le = absurd (omega (arith, le))
    past_all (x ∷ xs) (suc k) le = past_all xs k (omega (arith, le))

    by : (o : Option CountedAnswer) → counted_answers.lacks_counted o None ≡ false
    by None = refl
    by (Some one) = refl

pub both_at : (counted : List CountedAnswer) (next : ℕ) (d : CountedAnswer) → 0 < next → next < length counted
    → lost_answers.is_more ((get_or counted next d).alone - (get_or counted (next - 1) d).alone) (lost_answers.left_out (get_or counted (next - 1) d).count (get_or counted next d).count) ≡ counted_answers.lacks_counted (last_or None (take next counted)) (slice_get counted next)
both_at counted next d above lt =
    sym (ap (λ o. counted_answers.lacks_counted o (slice_get counted next)) last_taken ∙ ap (counted_answers.lacks_counted (Some (get_or counted (next - 1) d))) (slice_get-get_or counted next d lt))
  where
    last_pushed : (xs : List CountedAnswer) (x : CountedAnswer) (o : Option CountedAnswer) → last_or o (xs ++ x ∷ []) ≡ Some x
    last_pushed [] x o = refl
    last_pushed (y ∷ xs) x o = last_pushed xs x (Some y)

    one_before : next ≡ next - 1 + 1
    one_before = omega (arith, above)

    last_taken : last_or None (take next counted) ≡ Some (get_or counted (next - 1) d)
    last_taken =
        ap (λ k. last_or None (take k counted)) one_before ∙ ap (last_or None) (take_more counted (next - 1) d (omega (arith, lt)))
        ∙ last_pushed (take (next - 1) counted) (get_or counted (next - 1) d) None

-- where elements are left out that do not pass
before_kept : {X : Type 0} (test keeps : X → Bool) → ((x : X) → test x ≡ true → keeps x ≡ true) → (xs : List X) → before_first test (filter keeps xs) ≡ filter keeps (before_first test xs)
before_kept test keeps h [] = refl
before_kept {X} test keeps h (x ∷ xs) = by (before_kept test keeps h xs) (test x) refl (keeps x) refl
  where
    by : before_first test (filter keeps xs) ≡ filter keeps (before_first test xs) → (passes : Bool) → test x ≡ passes → (kept : Bool) → keeps x ≡ kept → before_first test (cond kept (x ∷ filter keeps xs) (filter keeps xs)) ≡ filter keeps (before_first test (x ∷ xs))
    by onward true is true too = first_stops test x (filter keeps xs) is ∙ sym (ap (filter keeps) (first_stops test x xs is))
    by onward true is false out = absurd (let clash : true ≡ false = sym (h x is) ∙ out in cc)
    by onward false is true too =
        first_past test x (filter keeps xs) is ∙ ap (λ l. x ∷ l) onward
        ∙ sym (ap (filter keeps) (first_past test x xs is) ∙ ap (λ b. cond b (x ∷ filter keeps (before_first test xs)) (filter keeps (before_first test xs))) too)
    by onward false is false out =
        onward ∙ sym (ap (filter keeps) (first_past test x xs is) ∙ ap (λ b. cond b (x ∷ filter keeps (before_first test xs)) (filter keeps (before_first test xs))) out)

-- ---- answers that are counted

module _ (pair : Pair) (all : List placed_spec.PlacedValue) where
  abbrev counted : placed_spec.PlacedValue → Option CountedAnswer
  counted = counted_answers.counted_of pair all

  abbrev is_one : placed_spec.PlacedValue → Bool
  is_one = lost_answers.answers pair.writer pair.reader

  -- the first behind a place
  next_counted : (place : Location) (acts : List placed_spec.PlacedValue) → find (counted_answers.stands_behind place) (filter_map counted acts) ≡ option_and_then counted (find (lost_answers.answers_behind place pair.writer pair.reader) acts)
  next_counted place [] = refl
  next_counted place (x ∷ xs) = by (next_counted place xs) (is_one x) refl (locations.is_behind (Some place) x) refl
    where
      own : CountedAnswer
      own = counted_answers.counted_with (counts.count_in (lost_answers.asks_for_fragments_alone pair.writer pair.reader all) 0 x.datagram) x

      by : find (counted_answers.stands_behind place) (filter_map counted xs) ≡ option_and_then counted (find (lost_answers.answers_behind place pair.writer pair.reader) xs) → (one : Bool) → is_one x ≡ one → (behind : Bool) → locations.is_behind (Some place) x ≡ behind
          → find (counted_answers.stands_behind place) (cons_option (cond one (Some own) None) (filter_map counted xs)) ≡ option_and_then counted (cond (behind && one) (Some x) (find (lost_answers.answers_behind place pair.writer pair.reader) xs))
      by onward true is true at = ap (λ b. cond b (Some own) (find (counted_answers.stands_behind place) (filter_map counted xs))) at ∙ sym (ap (λ b. cond b (Some own) None) is)
      by onward true is false at = ap (λ b. cond b (Some own) (find (counted_answers.stands_behind place) (filter_map counted xs))) at ∙ onward
      by onward false is true at = onward
      by onward false is false at = onward

  -- those in front of it
  before_counted : (place : Location) (acts : List placed_spec.PlacedValue) → before_first (counted_answers.stands_behind place) (filter_map counted acts) ≡ filter_map counted (before_first (lost_answers.answers_behind place pair.writer pair.reader) acts)
  before_counted place [] = refl
  before_counted place (x ∷ xs) = by (before_counted place xs) (is_one x) refl (locations.is_behind (Some place) x) refl
    where
      own : CountedAnswer
      own = counted_answers.counted_with (counts.count_in (lost_answers.asks_for_fragments_alone pair.writer pair.reader all) 0 x.datagram) x

      test : placed_spec.PlacedValue → Bool
      test = lost_answers.answers_behind place pair.writer pair.reader

      by : before_first (counted_answers.stands_behind place) (filter_map counted xs) ≡ filter_map counted (before_first test xs) → (one : Bool) → is_one x ≡ one → (behind : Bool) → locations.is_behind (Some place) x ≡ behind
          → before_first (counted_answers.stands_behind place) (cons_option (cond one (Some own) None) (filter_map counted xs)) ≡ filter_map counted (before_first test (x ∷ xs))
      by onward true is true at =
          first_stops (counted_answers.stands_behind place) own (filter_map counted xs) at
          ∙ sym (ap (filter_map counted) (first_stops test x xs (ap (λ b. b && is_one x) at ∙ is)))
      by onward true is false at =
          first_past (counted_answers.stands_behind place) own (filter_map counted xs) at ∙ ap (λ l. own ∷ l) onward
          ∙ sym (ap (filter_map counted) (first_past test x xs (ap (λ b. b && is_one x) at)) ∙ ap (λ b. cons_option (cond b (Some own) None) (filter_map counted (before_first test xs))) is)
      by onward false is true at =
          onward
          ∙ sym (ap (filter_map counted) (first_past test x xs (ap (λ b. b && is_one x) at ∙ is)) ∙ ap (λ b. cons_option (cond b (Some own) None) (filter_map counted (before_first test xs))) is)
      by onward false is false at =
          onward
          ∙ sym (ap (filter_map counted) (first_past test x xs (ap (λ b. b && is_one x) at)) ∙ ap (λ b. cons_option (cond b (Some own) None) (filter_map counted (before_first test xs))) is)

  -- the last of some
  last_counted : (acts : List placed_spec.PlacedValue) (last : Option placed_spec.PlacedValue) → last_or (option_and_then counted last) (filter_map counted acts) ≡ option_and_then counted (last_or last (filter is_one acts))
  last_counted [] last = refl
  last_counted (x ∷ xs) last = by (last_counted xs (Some x)) (last_counted xs last) (is_one x) refl
    where
      own : CountedAnswer
      own = counted_answers.counted_with (counts.count_in (lost_answers.asks_for_fragments_alone pair.writer pair.reader all) 0 x.datagram) x

      by : last_or (option_and_then counted (Some x)) (filter_map counted xs) ≡ option_and_then counted (last_or (Some x) (filter is_one xs)) → last_or (option_and_then counted last) (filter_map counted xs) ≡ option_and_then counted (last_or last (filter is_one xs))
          → (one : Bool) → is_one x ≡ one → last_or (option_and_then counted last) (cons_option (cond one (Some own) None) (filter_map counted xs)) ≡ option_and_then counted (last_or last (cond one (x ∷ filter is_one xs) (filter is_one xs)))
      by here others true is = ap (λ o. last_or o (filter_map counted xs)) (sym (ap (λ b. cond b (Some own) None) is)) ∙ here
      by here others false is = others

  -- how many datagrams between two ask for fragments alone
  between : (one other : ℕ) → counts.count_in (lost_answers.asks_for_fragments_alone pair.writer pair.reader all) 0 other - counts.count_in (lost_answers.asks_for_fragments_alone pair.writer pair.reader all) 0 one ≡ counts.count_in (lost_answers.asks_for_fragments_alone pair.writer pair.reader all) one other
  between one other = elim (cases_lt other one) [
    | inl lt ↦
        let split = count_split (lost_answers.asks_for_fragments_alone pair.writer pair.reader all) 0 other one (omega arith) (omega (arith, lt)) in
        let none = count_none (lost_answers.asks_for_fragments_alone pair.writer pair.reader all) one other (λ n low high. absurd (omega (arith, lt, low, high))) in
        omega (arith, split, none)
    | inr le ↦
        let split = count_split (lost_answers.asks_for_fragments_alone pair.writer pair.reader all) 0 one other (omega arith) le in
        omega (arith, split)
  ]

  -- the act, if there is one, is an answer
  abbrev AreAnswers : Option placed_spec.PlacedValue → Type 0
  AreAnswers None = Unit {0}
  AreAnswers (Some x) = is_one x ≡ true

  -- an answer lacks between two of the counted ones where it does between the two acts
  lacks_same : (one other : Option placed_spec.PlacedValue) → AreAnswers one → AreAnswers other → counted_answers.lacks_counted (option_and_then counted one) (option_and_then counted other) ≡ lost_answers.lacks_between pair.writer pair.reader all one other
  lacks_same None other is also = refl
  lacks_same (Some one) None is also = ap (λ b. counted_answers.lacks_counted (cond b (Some (counted_answers.counted_with (counts.count_in (lost_answers.asks_for_fragments_alone pair.writer pair.reader all) 0 one.datagram) one)) None) None) is
  lacks_same (Some one) (Some other) is also =
      ap (λ b. counted_answers.lacks_counted (cond b (Some (counted_answers.counted_with (counts.count_in (lost_answers.asks_for_fragments_alone pair.writer pair.reader all) 0 one.datagram) one)) None) (counted other)) is
      ∙ ap (λ b. counted_answers.lacks_counted (Some (counted_answers.counted_with (counts.count_in (lost_answers.asks_for_fragments_alone pair.writer pair.reader all) 0 one.datagram) one)) (cond b (Some (counted_answers.counted_with (counts.count_in (lost_answers.asks_for_fragments_alone pair.writer pair.reader all) 0 other.datagram) other)) None)) also
      ∙ ap (λ k. lost_answers.is_more k (lost_answers.left_out (lost_answers.count_of one.act.body) (lost_answers.count_of other.act.body))) (between one.datagram other.datagram)

  found_answers : (place : Location) (acts : List placed_spec.PlacedValue) → AreAnswers (find (lost_answers.answers_behind place pair.writer pair.reader) acts)
  found_answers place [] = tt
  found_answers place (x ∷ xs) = by (is_one x) refl (locations.is_behind (Some place) x) (found_answers place xs)
    where
      by : (one : Bool) → is_one x ≡ one → (behind : Bool) → AreAnswers (find (lost_answers.answers_behind place pair.writer pair.reader) xs) → AreAnswers (cond (behind && one) (Some x) (find (lost_answers.answers_behind place pair.writer pair.reader) xs))
      by true is true rest = is
      by true is false rest = rest
      by false is true rest = rest
      by false is false rest = rest

  last_answers : (acts : List placed_spec.PlacedValue) (last : Option placed_spec.PlacedValue) → AreAnswers last → AreAnswers (last_or last (filter is_one acts))
  last_answers [] last are = are
  last_answers (x ∷ xs) last are = by (last_answers xs (Some x)) (last_answers xs last are) (is_one x) refl
    where
      by : (AreAnswers (Some x) → AreAnswers (last_or (Some x) (filter is_one xs))) → AreAnswers (last_or last (filter is_one xs)) → (one : Bool) → is_one x ≡ one → AreAnswers (last_or last (cond one (x ∷ filter is_one xs) (filter is_one xs)))
      by here others true is = here is
      by here others false is = others

  -- an answer lacks around a place, by the counted ones among some acts
  lacks_among_is : (place : Location) (acts : List placed_spec.PlacedValue) → counted_answers.lacks_among (filter_map counted acts) place
      ≡ lost_answers.lacks_between pair.writer pair.reader all (locations.find_last is_one (before_first (lost_answers.answers_behind place pair.writer pair.reader) acts)) (find (lost_answers.answers_behind place pair.writer pair.reader) acts)
  lacks_among_is place acts =
      ap (λ l. counted_answers.lacks_counted (last_or None l) (find (counted_answers.stands_behind place) (filter_map counted acts))) (before_counted place acts)
      ∙ ap (λ o. counted_answers.lacks_counted o (find (counted_answers.stands_behind place) (filter_map counted acts))) (last_counted (before_first (lost_answers.answers_behind place pair.writer pair.reader) acts) None)
      ∙ ap (counted_answers.lacks_counted (option_and_then counted (locations.find_last is_one (before_first (lost_answers.answers_behind place pair.writer pair.reader) acts)))) (next_counted place acts)
      ∙ lacks_same (locations.find_last is_one (before_first (lost_answers.answers_behind place pair.writer pair.reader) acts)) (find (lost_answers.answers_behind place pair.writer pair.reader) acts)
      (last_answers (before_first (lost_answers.answers_behind place pair.writer pair.reader) acts) None tt) (found_answers place acts)

-- ---- a reader's own acts

pub answerer : (writer reader : Guid) (x : placed_spec.PlacedValue) → lost_answers.answers writer reader x ≡ true → placed_spec.is_from reader x ≡ true
answerer writer reader x is = search rules

pub other_answerer : (writer reader : Guid) (x : placed_spec.PlacedValue) → lost_answers.answers_another writer reader x ≡ true → placed_spec.is_from reader x ≡ true
other_answerer writer reader x is = (and_parts (placed_spec.is_from reader x) (lost_answers.is_another writer (speech.writer_answered x.act)) is).0

asker : (writer reader : Guid) (n : ℕ) (x : placed_spec.PlacedValue) → lost_answers.asks_for_fragments_in n writer reader x ≡ true → placed_spec.is_from reader x ≡ true
asker writer reader n x is = requester_is_origin reader writer x (and_parts (speech.is_request x.act reader writer) (not (speech.is_ack_nack x.act.body)) (and_parts (x.datagram == n) (lost_answers.asks_for_fragments writer reader x) is).1).0

sender : (reader : Guid) (n : ℕ) (x : placed_spec.PlacedValue) → lost_answers.is_ack_nack_in n reader x ≡ true → placed_spec.is_from reader x ≡ true
sender reader n x is = (and_parts (placed_spec.is_from reader x) (speech.is_ack_nack x.act.body) (and_parts (x.datagram == n) (placed_spec.is_from reader x && speech.is_ack_nack x.act.body) is).1).0

own_alone : (writer reader : Guid) (placed : List placed_spec.PlacedValue) (n : ℕ) → lost_answers.asks_for_fragments_alone writer reader (filter (placed_spec.is_from reader) placed) n ≡ lost_answers.asks_for_fragments_alone writer reader placed n
own_alone writer reader placed n =
    ap (λ b. b && not (list_any (lost_answers.is_ack_nack_in n reader) (filter (placed_spec.is_from reader) placed))) (any_filter (lost_answers.asks_for_fragments_in n writer reader) (placed_spec.is_from reader) (asker writer reader n) placed)
    ∙ ap (λ b. list_any (lost_answers.asks_for_fragments_in n writer reader) placed && not b) (any_filter (lost_answers.is_ack_nack_in n reader) (placed_spec.is_from reader) (sender reader n) placed)

own_between : (writer reader : Guid) (placed : List placed_spec.PlacedValue) (one other : Option placed_spec.PlacedValue) → lost_answers.lacks_between writer reader (filter (placed_spec.is_from reader) placed) one other ≡ lost_answers.lacks_between writer reader placed one other
own_between writer reader placed None other = refl
own_between writer reader placed (Some one) None = refl
own_between writer reader placed (Some one) (Some other) =
    ap (λ k. lost_answers.is_more k (lost_answers.left_out (lost_answers.count_of one.act.body) (lost_answers.count_of other.act.body)))
    (count_same (lost_answers.asks_for_fragments_alone writer reader (filter (placed_spec.is_from reader) placed)) (lost_answers.asks_for_fragments_alone writer reader placed) one.datagram other.datagram (λ n low high. own_alone writer reader placed n))

own_last : (writer reader : Guid) (acts : List placed_spec.PlacedValue) → locations.find_last (lost_answers.answers writer reader) (filter (placed_spec.is_from reader) acts) ≡ locations.find_last (lost_answers.answers writer reader) acts
own_last writer reader acts = ap (last_or None) (filter_filter (lost_answers.answers writer reader) (placed_spec.is_from reader) (answerer writer reader) acts)

-- an answer lacks around a place by its own acts where it does by all
own_around : (writer reader : Guid) (placed : List placed_spec.PlacedValue) (place : Location) → lost_answers.lacks_around writer reader (filter (placed_spec.is_from reader) placed) place ≡ lost_answers.lacks_around writer reader placed place
own_around writer reader placed place =
    let test = lost_answers.answers_behind place writer reader in
    let behind : (x : placed_spec.PlacedValue) → test x ≡ true → placed_spec.is_from reader x ≡ true = λ x is. answerer writer reader x (and_parts (locations.is_behind (Some place) x) (lost_answers.answers writer reader x) is).1 in
    own_between writer reader placed (locations.find_last (lost_answers.answers writer reader) (before_first test (filter (placed_spec.is_from reader) placed))) (find test (filter (placed_spec.is_from reader) placed))
    ∙ ap (λ o. lost_answers.lacks_between writer reader placed o (find test (filter (placed_spec.is_from reader) placed))) (ap (locations.find_last (lost_answers.answers writer reader)) (before_kept test (placed_spec.is_from reader) behind placed) ∙ own_last writer reader (before_first test placed))
    ∙ ap (lost_answers.lacks_between writer reader placed (locations.find_last (lost_answers.answers writer reader) (before_first test placed))) (find_filter test (placed_spec.is_from reader) behind placed)

-- what the counted answers of the reader's own acts tell
pub lacks_told : (pair : Pair) (placed : List placed_spec.PlacedValue) (place : Location) → counted_answers.lacks_among (counted_answers.counted_among pair (filter (placed_spec.is_from pair.reader) placed)) place ≡ lost_answers.lacks_around pair.writer pair.reader placed place
lacks_told pair placed place = lacks_among_is pair (filter (placed_spec.is_from pair.reader) placed) place (filter (placed_spec.is_from pair.reader) placed) ∙ own_around pair.writer pair.reader placed place
