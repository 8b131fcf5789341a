-- The last element that passes, and where the last answer stands; how often the reader was asked since then, one act more at a time.
use Rattle.std.proofs.lemmas.Grind.{common_steps}
use Rattle.std.proofs.Common.{◌≡◌, ◌∙◌, ℕ, ◌+◌, ◌-◌, ◌^◌, ◌<◌, ◌≤◌, ◌&&◌, Bool, true, false, cond, List, [], ◌∷◌, ◌++◌, filter, get_or, length, min, take, Option, Some, None, refl, sym, ap, subst, arith, pos}
use Rattle.std.specs.Prelude.{is_some, if◌then◌else◌, slice_get, unwrap_or}
use Rattle.std.specs.List.{cons_option, find, last_or}
use Rattle.std.specs.Option.{option_map, option_or}
use Rattle.std.proofs.lemmas.Bool.{and_parts}
use Rattle.std.proofs.lemmas.Bool.Decides.{nat_tests}
use Rattle.std.proofs.lemmas.List.{append-nil, length-append, take_more}
use Rattle.std.proofs.lemmas.List.Folds.{find-append}
use Rattle.rtps_ids.specs.declared.identity.Guid.{Guid}
use Rattle.rtps_ids.specs.declared.identity.GuidPrefix.{GuidPrefix}
use Rattle.rtps_discovery.specs.declared.matching.Pair.{Pair}
use Rattle.rtps_receiver.specs.Speech as receiver_speech
use Rattle.rtps_receiver.specs.Values as values
use Rattle.rtps_audit.specs.Placed as placed_spec
use Rattle.rtps_audit.specs.Speech as audit_speech
use Rattle.rtps_audit.specs.declared.answer.Answer.{Answer}
use Rattle.rtps_audit.proofs.Offered.{speaker_is_origin}
use Rattle.rtps_evidence.specs.Locations as locations
use Rattle.rtps_evidence.specs.Questions as questions_spec
use Rattle.rtps_evidence.specs.declared.location.Location.{Location}
use Rattle.rtps_evidence.specs.declared.questions.Questions.{Questions}
use Rattle.rtps_evidence.proofs.LedgerLemmas.{filter_more}

last_is : {X : Type 0} (o : Option X) (xs : List X) (x : X) → last_or o (xs ++ x ∷ []) ≡ Some x
last_is o [] x = refl
last_is o (y ∷ xs) x = last_is (Some y) xs x

-- where the last answer stands, with one more
pub last_place_more : (answers : List Answer) (i : ℕ) (d : Answer) (place : Location) → i < length answers → place ≡ questions_spec.place_of (get_or answers i d) → Some place ≡ option_map questions_spec.place_of (last_or None (take (i + 1) answers))
last_place_more answers i d place lt is = grind (arith, nat_tests, common_steps, take_more, last_is)

-- ---- the last answer

-- an act that answers has a base
pub answer_has_base : (writer reader : Guid) (source : GuidPrefix) (dest : Option GuidPrefix) (body : values.ActBodyValue)
    → is_some (if receiver_speech.is_prefix source reader.prefix && (receiver_speech.is_for dest writer.prefix && receiver_speech.names_pair body reader.entity writer.entity) then audit_speech.base_of_body body else None)
    ≡ (receiver_speech.is_prefix source reader.prefix && (receiver_speech.is_for dest writer.prefix && receiver_speech.names_pair body reader.entity writer.entity))
answer_has_base writer reader source dest body = grind (arith, nat_tests)

last_answered : (pair : Pair) (placed : List placed_spec.PlacedValue) (answer : Option Answer) (act : Option placed_spec.PlacedValue) → option_map questions_spec.place_of answer ≡ option_map locations.location_of act
    → option_map questions_spec.place_of (last_or answer (placed_spec.answers_among pair placed)) ≡ option_map locations.location_of (last_or act (filter (λ (at : placed_spec.PlacedValue). receiver_speech.is_answer at.act pair.reader pair.writer) placed))
last_answered pair [] answer act same = same
last_answered pair (x ∷ placed) answer act same =
    by (λ one other e. last_answered pair placed one other e) (audit_speech.base_for pair.writer pair.reader x.act) (receiver_speech.is_answer x.act pair.reader pair.writer) (answer_has_base pair.writer pair.reader x.act.source x.act.dest x.act.body)
  where
    by : ((one : Option Answer) (other : Option placed_spec.PlacedValue) → option_map questions_spec.place_of one ≡ option_map locations.location_of other
        → option_map questions_spec.place_of (last_or one (placed_spec.answers_among pair placed)) ≡ option_map locations.location_of (last_or other (filter (λ (at : placed_spec.PlacedValue). receiver_speech.is_answer at.act pair.reader pair.writer) placed)))
        → (base : Option ℕ) (b : Bool) → is_some base ≡ b
        → option_map questions_spec.place_of (last_or answer (cons_option (placed_spec.answer_at x.datagram x.act.at base) (placed_spec.answers_among pair placed)))
        ≡ option_map locations.location_of (last_or act (cond b (x ∷ filter (λ (at : placed_spec.PlacedValue). receiver_speech.is_answer at.act pair.reader pair.writer) placed) (filter (λ (at : placed_spec.PlacedValue). receiver_speech.is_answer at.act pair.reader pair.writer) placed)))
    by onward None true e = absurd (let clash : false ≡ true = e in cc)
    by onward None false e = onward answer act same
    by onward (Some base) true e = onward (Some (record { datagram = x.datagram; at = x.act.at; base = pos base })) (Some x) refl
    by onward (Some base) false e = absurd (let clash : true ≡ false = e in cc)

pub place_answered_same : (pair : Pair) (placed : List placed_spec.PlacedValue) → option_map questions_spec.place_of (last_or None (placed_spec.answers_among pair placed)) ≡ questions_spec.place_answered pair.writer pair.reader placed
place_answered_same pair placed = last_answered pair placed None None refl

-- ---- what the writer says

filter_kept : {X : Type 0} (test : X → Bool) (x : X) (keeps : Bool) (xs all : List X) → (test x ≡ true → keeps ≡ true) → filter test xs ≡ filter test all → filter test (cond keeps (x ∷ xs) xs) ≡ cond (test x) (x ∷ filter test all) (filter test all)
filter_kept test x keeps xs all h h2 = grind (arith, nat_tests)

pub filter_filter : {X : Type 0} (test keeps : X → Bool) → ((x : X) → test x ≡ true → keeps x ≡ true) → (xs : List X) → filter test (filter keeps xs) ≡ filter test xs
filter_filter test keeps h [] = refl
filter_filter test keeps h (x ∷ xs) = filter_kept test x (keeps x) (filter keeps xs) xs (h x) (filter_filter test keeps h xs)

-- the first that passes is the first of those that do
find_first : {X : Type 0} (test : X → Bool) (xs : List X) → find test xs ≡ slice_get (filter test xs) 0
find_first test [] = refl
find_first test (x ∷ xs) = by (test x) (find_first test xs)
  where
    by : (b : Bool) → find test xs ≡ slice_get (filter test xs) 0 → cond b (Some x) (find test xs) ≡ slice_get (cond b (x ∷ filter test xs) (filter test xs)) 0
    by true same = refl
    by false same = same

find_same : {X : Type 0} (test : X → Bool) (xs ys : List X) → filter test xs ≡ filter test ys → find test xs ≡ find test ys
find_same test xs ys same = find_first test xs ∙ ap (λ l. slice_get l 0) same ∙ sym (find_first test ys)

-- what the writer's acts ask is what all acts do
asked_kept : (place : Option Location) (writer reader : Guid) (placed : List placed_spec.PlacedValue) → filter (questions_spec.questions_behind place writer reader) (filter (placed_spec.is_from writer) placed) ≡ filter (questions_spec.questions_behind place writer reader) placed
asked_kept place writer reader placed = filter_filter (questions_spec.questions_behind place writer reader) (placed_spec.is_from writer) (λ at passes. speaker_is_origin writer at
    (and_parts (receiver_speech.is_spoken_by at.act writer) (receiver_speech.is_heard_by at.act reader && questions_spec.is_question at.act.body) (and_parts (locations.is_behind place at) (receiver_speech.is_spoken_by at.act writer && (receiver_speech.is_heard_by at.act reader && questions_spec.is_question at.act.body)) passes).1).0) placed

first_kept : (place : Option Location) (writer reader : Guid) (placed : List placed_spec.PlacedValue) → option_map locations.location_of (find (questions_spec.questions_behind place writer reader) (filter (placed_spec.is_from writer) placed)) ≡ option_map locations.location_of (find (questions_spec.questions_behind place writer reader) placed)
first_kept place writer reader placed = ap (option_map locations.location_of) (find_same (questions_spec.questions_behind place writer reader) (filter (placed_spec.is_from writer) placed) placed (asked_kept place writer reader placed))

pub asked_same : (place : Option Location) (writer reader : Guid) (placed : List placed_spec.PlacedValue) (questions : Questions) → questions_spec.AreAsked place writer reader (filter (placed_spec.is_from writer) placed) questions → questions_spec.AreAsked place writer reader placed questions
asked_same place writer reader placed questions is =
    let same = asked_kept place writer reader placed in
    record {
      since = is.since;
      count = is.count ∙ ap length same;
      first = is.first ∙ first_kept place writer reader placed;
      last = is.last ∙ ap (λ l. option_map locations.location_of (last_or None l)) same;
    }

-- those of the pair's own acts and answers are those of all
pub questions_of_pair : (pair : Pair) (placed acts : List placed_spec.PlacedValue) (answers : List Answer) (questions : Questions) → acts ≡ filter (placed_spec.is_from pair.writer) placed → answers ≡ placed_spec.answers_among pair placed
    → questions_spec.AreAsked (option_map questions_spec.place_of (last_or None answers)) pair.writer pair.reader acts questions → questions_spec.AreQuestions pair.writer pair.reader placed questions
questions_of_pair pair placed acts answers questions of_acts of_answers are =
    let place = ap (λ (l : List Answer). option_map questions_spec.place_of (last_or None l)) of_answers ∙ place_answered_same pair placed in
    subst (λ p. questions_spec.AreAsked p pair.writer pair.reader placed questions) place
    (asked_same (option_map questions_spec.place_of (last_or None answers)) pair.writer pair.reader placed questions
    (subst (λ l. questions_spec.AreAsked (option_map questions_spec.place_of (last_or None answers)) pair.writer pair.reader l questions) of_acts are))

-- ---- an act more

few_pass : {X : Type 0} (test : X → Bool) (xs : List X) → length (filter test xs) ≤ length xs
few_pass test [] = omega arith
few_pass test (x ∷ xs) = by (test x) (few_pass test xs)
  where
    by : (b : Bool) → length (filter test xs) ≤ length xs → length (cond b (x ∷ filter test xs) (filter test xs)) ≤ length (x ∷ xs)
    by true le = omega arith
    by false le = omega arith

first_more : (test : placed_spec.PlacedValue → Bool) (xs : List placed_spec.PlacedValue) (x : placed_spec.PlacedValue) (here : Location) → test x ≡ true → here ≡ locations.location_of x
    → Some (unwrap_or (option_map locations.location_of (find test xs)) here) ≡ option_map locations.location_of (find test (xs ++ x ∷ []))
first_more test xs x here passes at =
    by (find test xs) ∙ sym (ap (option_map locations.location_of) (find-append test xs (x ∷ []) ∙ ap (λ b. option_or (find test xs) (cond b (Some x) None)) passes))
  where
    by : (found : Option placed_spec.PlacedValue) → Some (unwrap_or (option_map locations.location_of found) here) ≡ option_map locations.location_of (option_or found (Some x))
    by None = ap Some at
    by (Some one) = refl

-- one that does not ask changes nothing
pub asked_still : (place : Option Location) (writer reader : Guid) (acts : List placed_spec.PlacedValue) (x : placed_spec.PlacedValue) (questions : Questions) → questions_spec.questions_behind place writer reader x ≡ false
    → questions_spec.AreAsked place writer reader acts questions → questions_spec.AreAsked place writer reader (acts ++ x ∷ []) questions
asked_still place writer reader acts x questions fails are =
    let test = questions_spec.questions_behind place writer reader in
    let same : filter test (acts ++ x ∷ []) ≡ filter test acts = filter_more test acts x false fails ∙ append-nil (filter test acts) in
    record {
      since = are.since;
      count = are.count ∙ sym (ap length same);
      first = are.first ∙ ap (option_map locations.location_of) (find_same test acts (acts ++ x ∷ []) (sym same));
      last = are.last ∙ sym (ap (λ l. option_map locations.location_of (last_or None l)) same);
    }

-- one that asks is counted, is the first where none was before, and is the last
pub asked_more : (place : Option Location) (writer reader : Guid) (acts : List placed_spec.PlacedValue) (x : placed_spec.PlacedValue) (old new : Questions) (here : Location) → questions_spec.questions_behind place writer reader x ≡ true → length acts + 1 < 2 ^ 64 → here ≡ locations.location_of x
    → questions_spec.AreAsked place writer reader acts old → new.since ≡ old.since → new.count ≡ min (old.count + 1) (2 ^ 64 - 1) → new.first ≡ Some (unwrap_or old.first here) → new.last ≡ Some here → questions_spec.AreAsked place writer reader (acts ++ x ∷ []) new
asked_more place writer reader acts x old new here passes few at are since count first last =
    let test = questions_spec.questions_behind place writer reader in
    let more : filter test (acts ++ x ∷ []) ≡ filter test acts ++ x ∷ [] = filter_more test acts x true passes in
    let size : length (filter test (acts ++ x ∷ [])) ≡ length (filter test acts) + 1 = ap length more ∙ length-append (filter test acts) (x ∷ []) in
    let old_count = are.count in
    let most : length (filter test acts) ≤ length acts = few_pass test acts in
    record {
      since = since ∙ are.since;
      count = omega arith;
      first = first ∙ ap (λ o. Some (unwrap_or o here)) are.first ∙ first_more test acts x here passes at;
      last = last ∙ ap Some at ∙ sym (ap (λ l. option_map locations.location_of (last_or None l)) more ∙ ap (option_map locations.location_of) (last_is None (filter test acts) x));
    }
