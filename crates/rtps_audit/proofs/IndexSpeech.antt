-- What is heard and answered by acts of an index is what the recording says, and so the verdicts are the same.
use Rattle.std.proofs.Common.{◌≡◌, ◌≢◌, ℕ, zero, suc, ℤ, pos, negsuc, ◌+◌, ◌-◌, ◌<◌, ◌≤◌, ◌^◌, Bool, true, false, ◌&&◌, List, [], ◌∷◌, map, max, filter, Option, Some, None, slice_get, ◌⊎◌, inl, inr, refl, sym, ap, ◌∙◌, subst, arith}
use Rattle.std.specs.Prelude.{Contains, MatchOption, if◌then◌else◌, nat_le, ◌<ℤ◌}
use Rattle.std.specs.List.{filter_map}
use Rattle.std.proofs.lemmas.Bool.{cases_lt}
use Rattle.std.proofs.lemmas.Bool.Decides.{nat_tests}
use Rattle.std.proofs.lemmas.Int.{ints}
use Rattle.std.proofs.lemmas.List.Elements.{All-contains}
use Rattle.rtps_ids.specs.declared.identity.Guid.{Guid}
use Rattle.rtps_ids.specs.declared.identity.GuidPrefix.{GuidPrefix}
use Rattle.rtps_receiver.specs.Speech as receiver_speech
use Rattle.rtps_receiver.specs.Values as values
use Rattle.rtps_discovery.specs.declared.matching.Pair.{Pair}
use Rattle.rtps_audit.specs.Answered as answered_spec
use Rattle.rtps_audit.specs.Delivery as delivery
use Rattle.rtps_audit.specs.Placed as placed_spec
use Rattle.rtps_audit.specs.PlainVerdict as plain_verdict
use Rattle.rtps_audit.specs.RunVerdict as run_verdict
use Rattle.rtps_receiver.specs.Said as said
use Rattle.rtps_audit.specs.Speech as speech
use Rattle.rtps_audit.specs.declared.answer.Answer.{Answer}
use Rattle.rtps_audit.specs.declared.verdict.Untold.{Untold}
use Rattle.rtps_audit.proofs.Greatest.{below_from_claims, below_greatest, claimed_from_below, greatest_base, greatest_below}
use Rattle.rtps_audit.proofs.PlacedActs.{contains_cases, contains_head, contains_none, contains_tail, kept_if_passed, kept_is_there, made_from, makes, stands_there, stands_where}
use Rattle.rtps_audit.proofs.PlacedLemmas.{both, bytes_eq-sym}
use Rattle.rtps_audit.specs.declared.verdict.Verdict.{Verdict}
use Rattle.rtps_audit.proofs.Verdicts.{from_plain}

-- ---- places in lists

pub get_mapped : {X Y : Type 0} (f : X → Y) (xs : List X) (i : ℕ) (x : X) → slice_get xs i ≡ Some x → slice_get (map f xs) i ≡ Some (f x)
get_mapped f [] i x e = cc
get_mapped f (y ∷ xs) zero x e = let same : y ≡ x = (let h = e in cc) in ap Some (ap f same)
get_mapped f (y ∷ xs) (suc i) x e = get_mapped f xs i x e

pub mapped_get : {X Y : Type 0} (f : X → Y) (xs : List X) (i : ℕ) (y : Y) → slice_get (map f xs) i ≡ Some y → (x : X) × (slice_get xs i ≡ Some x) × (f x ≡ y)
mapped_get f [] i y e = cc
mapped_get f (x ∷ xs) zero y e = let same : f x ≡ y = (let h = e in cc) in (x, refl, same)
mapped_get f (x ∷ xs) (suc i) y e = mapped_get f xs i y e

contained_at : {X : Type 0} (xs : List X) (x : X) → Contains xs x → (k : ℕ) × (slice_get xs k ≡ Some x)
contained_at [] x among = absurd (contains_none x among)
contained_at (y ∷ xs) x among = elim (contains_cases y xs x among) [
  | inl here ↦ (0, ap Some here)
  | inr there ↦ let rest = contained_at xs x there in (suc rest.0, rest.1)
]

at_contained : {X : Type 0} (xs : List X) (k : ℕ) (x : X) → slice_get xs k ≡ Some x → Contains xs x
at_contained [] k x e = cc
at_contained (y ∷ xs) zero x e = let same : y ≡ x = (let h = e in cc) in subst (Contains (y ∷ xs)) same (contains_head y xs)
at_contained (y ∷ xs) (suc k) x e = contains_tail y xs x (at_contained xs k x e)

pub contains_mapped : {X Y : Type 0} (f : X → Y) (xs : List X) (y : Y) → Contains (map f xs) y → (x : X) × Contains xs x × (f x ≡ y)
contains_mapped f xs y among = let at = contained_at (map f xs) y among in let from = mapped_get f xs at.0 y at.1 in (from.0, at_contained xs at.0 from.0 from.1, from.2)

pub mapped_contains : {X Y : Type 0} (f : X → Y) (xs : List X) (x : X) → Contains xs x → Contains (map f xs) (f x)
mapped_contains f xs x among = let at = contained_at xs x among in at_contained (map f xs) at.0 (f x) (get_mapped f xs at.0 x at.1)

pub if_some : {X : Type 0} (b : Bool) (o : Option X) (x : X) → (if b then o else None) ≡ Some x → (b ≡ true) × (o ≡ Some x)
if_some true o x e = (refl, e)
if_some false o x e = cc

and_first : (a b : Bool) → (a && b) ≡ true → a ≡ true
and_first true b e = refl
and_first false b e = cc

-- ---- who speaks is who an act is from

never : (b c : Bool) → (b && false) ≡ true → c ≡ true
never true c e = cc
never false c e = cc

by_body : (writer : Guid) (source : GuidPrefix) (body : values.ActBodyValue) → (receiver_speech.is_prefix source writer.prefix && receiver_speech.names (receiver_speech.writer_named body) writer.entity) ≡ true
    → (receiver_speech.is_prefix writer.prefix source && receiver_speech.is_entity writer.entity (receiver_speech.entity_from body)) ≡ true
by_body writer source (values.ActBodyValue.AckNack value) e = never (receiver_speech.is_prefix source writer.prefix) (receiver_speech.is_prefix writer.prefix source && receiver_speech.is_entity writer.entity value.reader) e
by_body writer source (values.ActBodyValue.NackFrag value) e = never (receiver_speech.is_prefix source writer.prefix) (receiver_speech.is_prefix writer.prefix source && receiver_speech.is_entity writer.entity value.reader) e
by_body writer source (values.ActBodyValue.Data value) e = both (bytes_eq-sym writer.prefix.0 source.0) (bytes_eq-sym writer.entity.0 value.writer.0) ∙ e
by_body writer source (values.ActBodyValue.Heartbeat value) e = both (bytes_eq-sym writer.prefix.0 source.0) (bytes_eq-sym writer.entity.0 value.writer.0) ∙ e
by_body writer source (values.ActBodyValue.Gap value) e = both (bytes_eq-sym writer.prefix.0 source.0) (bytes_eq-sym writer.entity.0 value.writer.0) ∙ e
by_body writer source (values.ActBodyValue.DataFrag value) e = both (bytes_eq-sym writer.prefix.0 source.0) (bytes_eq-sym writer.entity.0 value.writer.0) ∙ e

pub spoken_is_from : (writer : Guid) (placed : placed_spec.PlacedValue) → receiver_speech.is_spoken_by placed.act writer ≡ true → placed_spec.is_from writer placed ≡ true
spoken_is_from writer placed e = by_body writer placed.act.source placed.act.body e

-- ---- acts that have all that a writer says

-- these are acts of the recording, and all that the writer speaks are among them
pub record HasSpeech (writer : Guid) (recording : List (List values.ActValue)) (placed : List placed_spec.PlacedValue) : Type 0 where
  pub there : (at : placed_spec.PlacedValue) → Contains placed at → Contains (placed_spec.placed_in recording) at
  pub kept : (at : placed_spec.PlacedValue) → Contains (placed_spec.placed_in recording) at → receiver_speech.is_spoken_by at.act writer ≡ true → Contains placed at

pub all_have : (writer : Guid) (recording : List (List values.ActValue)) → HasSpeech writer recording (placed_spec.placed_in recording)
all_have writer recording = record { there = λ at among. among; kept = λ at among spoken. among }

pub its_have : (writer : Guid) (recording : List (List values.ActValue)) → HasSpeech writer recording (filter (placed_spec.is_from writer) (placed_spec.placed_in recording))
its_have writer recording = record {
  there = λ at among. kept_is_there (placed_spec.is_from writer) (placed_spec.placed_in recording) at among;
  kept = λ at among spoken. kept_if_passed (placed_spec.is_from writer) (placed_spec.placed_in recording) at among (spoken_is_from writer at spoken);
}

-- ---- words

pub gives_from : {from : ℕ} (writer reader : Guid) (recording : List (List values.ActValue)) (placed : List placed_spec.PlacedValue) → HasSpeech writer recording placed → (n : ℕ) (word : delivery.Word) (heard : answered_spec.IsHeard writer reader placed n word) → delivery.IsAsked from n
    → (i : ℕ) × (k : ℕ) × delivery.Gives from (speech.speech_by writer reader recording) i k n word × (heard.at.datagram ≡ i + 1)
gives_from {from} writer reader recording placed has n word heard asked =
    let stands = stands_where 0 recording heard.at (has.there heard.at heard.among) in
    let at = contained_at stands.datagram heard.at.act stands.among in
    let gives : delivery.Gives from (speech.speech_by writer reader recording) stands.place at.0 n word = record {
      datagram = speech.said_by writer reader stands.datagram;
      act = speech.word_for writer reader heard.at.act;
      stands = get_mapped (speech.said_by writer reader) recording stands.place stands.datagram stands.stands;
      speaks = get_mapped (speech.word_for writer reader) stands.datagram at.0 heard.at.act at.1;
      asked = asked;
      says = heard.says;
    } in
    (stands.place, at.0, gives, stands.at ∙ omega arith)

pub heard_from : {from : ℕ} (writer reader : Guid) (recording : List (List values.ActValue)) (placed : List placed_spec.PlacedValue) → HasSpeech writer recording placed → (i k n : ℕ) (word : delivery.Word) → delivery.Gives from (speech.speech_by writer reader recording) i k n word
    → (heard : answered_spec.IsHeard writer reader placed n word) × (heard.at.datagram ≡ i + 1)
heard_from writer reader recording placed has i k n word gives =
    let datagram = mapped_get (speech.said_by writer reader) recording i gives.datagram gives.stands in
    let acts = datagram.0 in
    let speaks = ap (λ (d : delivery.Datagram). slice_get d.acts k) datagram.2 ∙ gives.speaks in
    let act = mapped_get (speech.word_for writer reader) acts k gives.act speaks in
    let says : speech.word_for writer reader act.0 n ≡ Some word = ap (λ (f : ℕ → Option delivery.Word). f n) act.2 ∙ gives.says in
    let here : placed_spec.PlacedValue = record { datagram = 0 + i + 1; act = act.0 } in
    let spoken = and_first _ _ (if_some _ (speech.word_of act.0.body n) word says).0 in
    let there = stands_there 0 i recording datagram.0 act.0 datagram.1 (at_contained acts k act.0 act.1) in
    (record { at = here; among = has.kept here there spoken; says = says }, omega arith)

told_from : {from : ℕ} (writer reader : Guid) (recording : List (List values.ActValue)) (placed : List placed_spec.PlacedValue) → HasSpeech writer recording placed → (j n : ℕ) → delivery.IsAsked from n → answered_spec.IsToldBy writer reader placed j n → run_verdict.IsTold from (speech.speech_by writer reader recording) j n
told_from writer reader recording placed has j n asked (word, (heard, until)) =
    let gives = gives_from writer reader recording placed has n word heard asked in
    let at = gives.3 in
    record { place = gives.0; act = gives.1; word = word; earlier = omega arith; gives = gives.2 }

told_to : {from : ℕ} (writer reader : Guid) (recording : List (List values.ActValue)) (placed : List placed_spec.PlacedValue) → HasSpeech writer recording placed → (j n : ℕ) → run_verdict.IsTold from (speech.speech_by writer reader recording) j n → answered_spec.IsToldBy writer reader placed j n
told_to writer reader recording placed has j n told =
    let heard = heard_from writer reader recording placed has told.place told.act n told.word told.gives in
    let at = heard.1 in
    let earlier = told.earlier in
    (told.word, (heard.0, omega arith))

two_from : {from : ℕ} (writer reader : Guid) (recording : List (List values.ActValue)) (placed : List placed_spec.PlacedValue) → HasSpeech writer recording placed → (n : ℕ) → answered_spec.HearsTwo from writer reader placed n → plain_verdict.SpeaksTwo from (speech.speech_by writer reader recording) n
two_from writer reader recording placed has n (asked, (x, y, one, two, differ)) =
    let a = gives_from writer reader recording placed has n (delivery.Word.Told x) one asked in
    let b = gives_from writer reader recording placed has n (delivery.Word.Told y) two asked in
    (x, y, record { place = a.0; act = a.1; gives = a.2 }, record { place = b.0; act = b.1; gives = b.2 }, differ)

two_to : {from : ℕ} (writer reader : Guid) (recording : List (List values.ActValue)) (placed : List placed_spec.PlacedValue) → HasSpeech writer recording placed → (n : ℕ) → plain_verdict.SpeaksTwo from (speech.speech_by writer reader recording) n → answered_spec.HearsTwo from writer reader placed n
two_to writer reader recording placed has n (x, y, one, two, differ) =
    (one.gives.asked, (x, y, (heard_from writer reader recording placed has one.place one.act n (delivery.Word.Told x) one.gives).0, (heard_from writer reader recording placed has two.place two.act n (delivery.Word.Told y) two.gives).0, differ))

pub conflict_from : (from : ℕ) (writer reader : Guid) (recording : List (List values.ActValue)) (placed : List placed_spec.PlacedValue) → HasSpeech writer recording placed → (conflict : Option ℕ)
    → MatchOption conflict ((n : ℕ) → ¬ answered_spec.HearsTwo from writer reader placed n) (run_verdict.IsLeast (answered_spec.HearsTwo from writer reader placed))
    → MatchOption conflict ((n : ℕ) → ¬ plain_verdict.SpeaksTwo from (speech.speech_by writer reader recording) n) (run_verdict.IsLeast (plain_verdict.SpeaksTwo from (speech.speech_by writer reader recording)))
conflict_from from writer reader recording placed has None never = λ n two. never n (two_to writer reader recording placed has n two)
conflict_from from writer reader recording placed has (Some n) least = record { holds = two_from writer reader recording placed has n least.holds; least = λ m two. least.least m (two_to writer reader recording placed has m two) }

-- ---- claims

answered : (pair : Pair) (placed : placed_spec.PlacedValue) (answer : Answer) → placed_spec.answer_of pair placed ≡ Some answer → (base : ℕ) × (speech.base_for pair.writer pair.reader placed.act ≡ Some base) × (answer ≡ record { datagram = placed.datagram; at = placed.act.at; base = pos base })
answered pair placed answer e = by_value (speech.base_for pair.writer pair.reader placed.act) refl e
  where
    by_value : (o : Option ℕ) → speech.base_for pair.writer pair.reader placed.act ≡ o → placed_spec.answer_at placed.datagram placed.act.at o ≡ Some answer → (base : ℕ) × (speech.base_for pair.writer pair.reader placed.act ≡ Some base) × (answer ≡ record { datagram = placed.datagram; at = placed.act.at; base = pos base })
    by_value None is e = cc
    by_value (Some base) is e = (base, is, (let h = e in cc))

-- an answer stands in a datagram, with its base
answer_stands : (pair : Pair) (recording : List (List values.ActValue)) (answer : Answer) → Contains (placed_spec.answers_among pair (placed_spec.placed_in recording)) answer
    → (j : ℕ) × (datagram : List values.ActValue) × (base : ℕ) × (slice_get recording j ≡ Some datagram) × (answer.datagram ≡ j + 1) × (answer.base ≡ pos base) × Contains (speech.said_by pair.writer pair.reader datagram).bases base
answer_stands pair recording answer among =
    let from = made_from (placed_spec.answer_of pair) (placed_spec.placed_in recording) answer among in
    let is = answered pair from.0 answer from.2 in
    let stands = stands_where 0 recording from.0 from.1 in
    let acts = stands.datagram in (
      stands.place,
      stands.datagram,
      is.0,
      stands.stands,
      ap (λ (a : Answer). a.datagram) is.2 ∙ stands.at ∙ omega arith,
      ap (λ (a : Answer). a.base) is.2,
      makes (speech.base_for pair.writer pair.reader) acts from.0.act is.0 stands.among is.1,
    )

-- and back
answer_there : (pair : Pair) (recording : List (List values.ActValue)) (j : ℕ) (datagram : List values.ActValue) (base : ℕ) → slice_get recording j ≡ Some datagram → Contains (speech.said_by pair.writer pair.reader datagram).bases base
    → (at : ℕ) × Contains (placed_spec.answers_among pair (placed_spec.placed_in recording)) (record { datagram = j + 1; at = at; base = pos base })
answer_there pair recording j datagram base stands among =
    let from = made_from (speech.base_for pair.writer pair.reader) datagram base among in
    let there = stands_there 0 j recording datagram from.0 stands from.1 in
    let makes_it = makes (placed_spec.answer_of pair) (placed_spec.placed_in recording) (record { datagram = 0 + j + 1; act = from.0 }) (record { datagram = j + 1; at = from.0.at; base = pos base }) there
    (ap (placed_spec.answer_at (0 + j + 1) from.0.at) from.2 ∙ ap (λ d. let made : Answer = record { datagram = d; at = from.0.at; base = pos base } in Some made) (omega arith)) in
    (from.0.at, makes_it)

claim_of : {from : ℕ} (pair : Pair) (recording : List (List values.ActValue)) (j n : ℕ) → delivery.Claims from (speech.speech_by pair.writer pair.reader recording) j n → (answer : Answer) × Contains (placed_spec.answers_among pair (placed_spec.placed_in recording)) answer × (answer.datagram ≡ j + 1) × (pos n <ℤ answer.base)
claim_of pair recording j n claims =
    let datagram = mapped_get (speech.said_by pair.writer pair.reader) recording j claims.datagram claims.stands in
    let among = subst (λ (d : delivery.Datagram). Contains d.bases claims.base) (sym datagram.2) claims.answers in
    let below = claims.below in
    let there = answer_there pair recording j datagram.0 claims.base datagram.1 among in
    (record { datagram = j + 1; at = there.0; base = pos claims.base }, there.1, refl, omega (arith, ints))

pub answers_counted : (pair : Pair) (recording : List (List values.ActValue)) → (k : ℕ) (d : Answer) → k < Rattle.std.proofs.Common.length (placed_spec.answers_among pair (placed_spec.placed_in recording)) → 1 ≤ (Rattle.std.proofs.Common.get_or (placed_spec.answers_among pair (placed_spec.placed_in recording)) k d).datagram
answers_counted pair recording k d lt =
    let stands = answer_stands pair recording _ (Rattle.std.proofs.lemmas.List.Elements.Contains-get_or (placed_spec.answers_among pair (placed_spec.placed_in recording)) k d lt) in
    let at = stands.4 in
    omega arith

-- ---- the first claim that is not told

-- the first claim that no earlier datagram tells, if there is one
abbrev pub IsFirstUntold : ℕ → delivery.Speech → Option Untold → Type 0
IsFirstUntold from speech found = MatchOption found (plain_verdict.IsFounded from speech) (λ untold. plain_verdict.IsPlainVerdictFrom from speech (Verdict.Unfounded untold.datagram untold.number))

pub first_from : (from : ℕ) (pair : Pair) (recording : List (List values.ActValue)) (placed : List placed_spec.PlacedValue) → HasSpeech pair.writer recording placed → (untold : Option Untold) → answered_spec.IsUntoldAmong from pair.writer pair.reader placed (placed_spec.answers_among pair (placed_spec.placed_in recording)) untold
    → IsFirstUntold from (speech.speech_by pair.writer pair.reader recording) untold
first_from from pair recording placed has None all = λ j n claims.
    let answer = claim_of pair recording j n claims in
    let told = All-contains (answered_spec.IsToldAll from pair.writer pair.reader placed) (placed_spec.answers_among pair (placed_spec.placed_in recording)) answer.0 all answer.1 n claims.asked answer.3 in
    let at : answer.0.datagram - 1 ≡ j = (let h = answer.2 in omega arith) in
    told_from pair.writer pair.reader recording placed has j n claims.asked (subst (λ i. answered_spec.IsToldBy pair.writer pair.reader placed i n) at told)
first_from from pair recording placed has (Some untold) first = by_sign untold.number refl
  where
    by_sign : (f : ℤ) → untold.number ≡ f → IsFirstUntold from (speech.speech_by pair.writer pair.reader recording) (Some untold)
    by_sign (negsuc f) e = absurd (let low = first.front.positive in omega (arith, ints))
    by_sign (pos f) e =
        let stands = answer_stands pair recording first.answer first.among in
        let j = stands.0 in
        let at = stands.4 in
        let base = stands.5 in
        let below = first.below in
        let small = first.small in
        let outside = first.front.outside f (sym e) (omega (arith, ints, e)) in
        let lt : f < stands.2 = omega (arith, ints, e, base) in
        let here : first.answer.datagram - 1 ≡ j = omega arith in
        let claim : delivery.Claims from (speech.speech_by pair.writer pair.reader recording) j f = record {
          datagram = speech.said_by pair.writer pair.reader stands.1;
          base = stands.2;
          stands = get_mapped (speech.said_by pair.writer pair.reader) recording j stands.1 stands.3;
          answers = stands.6;
          asked = outside.0;
          below = lt;
        } in
        let untold_here : run_verdict.ClaimsUntold from (speech.speech_by pair.writer pair.reader recording) j f = (
          claim,
          λ told. outside.1 (subst (λ i. answered_spec.IsToldBy pair.writer pair.reader placed i f) (sym here) (told_to pair.writer pair.reader recording placed has j f told)),
        ) in (
          j,
          first.datagram ∙ at,
          record { holds = (f, untold_here); least = λ m claims. least_place j m (first.datagram ∙ at) claims },
          subst (λ z. Rattle.rtps_audit.specs.RunVerdict.OnNatural z (run_verdict.IsLeast (run_verdict.ClaimsUntold from (speech.speech_by pair.writer pair.reader recording) j))) (sym e)
              (record { holds = untold_here; least = λ m claims. least_number j f e here small m claims }),
        )
      where
        least_place : (j m : ℕ) → untold.datagram ≡ j + 1 → ((n : ℕ) × run_verdict.ClaimsUntold from (speech.speech_by pair.writer pair.reader recording) m n) → j ≤ m
        least_place j m is (n, (claims, not)) = elim (cases_lt m j) [
          | inl lt ↦
              let answer = claim_of pair recording m n claims in
              let at = answer.2 in
              let told = All-contains (λ (other : Answer). other.datagram < untold.datagram → answered_spec.IsToldAll from pair.writer pair.reader placed other) (placed_spec.answers_among pair (placed_spec.placed_in recording)) answer.0 first.first answer.1 (omega arith) n claims.asked answer.3 in
              let same : answer.0.datagram - 1 ≡ m = omega arith in
              absurd (not (told_from pair.writer pair.reader recording placed has m n claims.asked (subst (λ i. answered_spec.IsToldBy pair.writer pair.reader placed i n) same told)))
          | inr ge ↦ ge
        ]

        least_number : (j f : ℕ) → untold.number ≡ pos f → first.answer.datagram - 1 ≡ j → untold.number <ℤ pos (2 ^ 63 - 1) → (m : ℕ) → run_verdict.ClaimsUntold from (speech.speech_by pair.writer pair.reader recording) j m → f ≤ m
        least_number j f e here small m (claims, not) = elim (cases_lt m f) [
          | inl lt ↦
              let told = first.front.below m claims.asked (omega (arith, ints, e)) (omega (arith, ints, e)) in
              absurd (not (told_from pair.writer pair.reader recording placed has j m claims.asked (subst (λ i. answered_spec.IsToldBy pair.writer pair.reader placed i m) here told)))
          | inr ge ↦ ge
        ]

-- ---- the greatest numbers

pub same_number : (a b : ℕ) → ((n : ℕ) → n < a → n < b) → ((n : ℕ) → n < b → n < a) → a ≡ b
same_number a b to back = elim (cases_lt a b) [
  | inl lt ↦ absurd (let h = back a lt in omega arith)
  | inr ge ↦ elim (cases_lt b a) [
    | inl lt ↦ absurd (let h = to b lt in omega arith)
    | inr le ↦ omega arith
  ]
]

-- it is from - 1 or the greatest number that is announced
last_announced_max : (from : ℕ) (speech : delivery.Speech) → delivery.last_announced_from from speech ≡ max (from - 1) (delivery.last_announced_from 1 speech)
last_announced_max from [] = omega arith
last_announced_max from (x ∷ xs) = let rest = last_announced_max from xs in omega arith

last_at : (n i : ℕ) (d : delivery.Datagram) (speech : delivery.Speech) → slice_get speech i ≡ Some d → n < delivery.greatest d.announced → n < delivery.last_announced_from 1 speech
last_at n i d [] e lt = cc
last_at n zero d (first ∷ speech) e lt = let same : first ≡ d = (let h = e in cc) in let here = ap (λ (x : delivery.Datagram). delivery.greatest x.announced) same in omega arith
last_at n (suc i) d (first ∷ speech) e lt = let rest = last_at n i d speech e lt in omega arith

at_last : (n : ℕ) (speech : delivery.Speech) → n < delivery.last_announced_from 1 speech → (i : ℕ) × (d : delivery.Datagram) × (slice_get speech i ≡ Some d) × (n < delivery.greatest d.announced)
at_last n [] lt = absurd (omega arith)
at_last n (first ∷ speech) lt = elim (cases_lt n (delivery.greatest first.announced)) [
  | inl here ↦ (0, first, refl, here)
  | inr past ↦ let rest = at_last n speech (omega arith) in (suc rest.0, rest.1, rest.2, rest.3)
]

base_at : (n i : ℕ) (d : delivery.Datagram) (speech : delivery.Speech) → slice_get speech i ≡ Some d → n < delivery.greatest d.bases → n < greatest_base speech
base_at n i d [] e lt = cc
base_at n zero d (first ∷ speech) e lt = let same : first ≡ d = (let h = e in cc) in let here = ap (λ (x : delivery.Datagram). delivery.greatest x.bases) same in omega arith
base_at n (suc i) d (first ∷ speech) e lt = let rest = base_at n i d speech e lt in omega arith

at_base : (n : ℕ) (speech : delivery.Speech) → n < greatest_base speech → (i : ℕ) × (d : delivery.Datagram) × (slice_get speech i ≡ Some d) × (n < delivery.greatest d.bases)
at_base n [] lt = absurd (omega arith)
at_base n (first ∷ speech) lt = elim (cases_lt n (delivery.greatest first.bases)) [
  | inl here ↦ (0, first, refl, here)
  | inr past ↦ let rest = at_base n speech (omega arith) in (suc rest.0, rest.1, rest.2, rest.3)
]

pub last_from : (from : ℕ) (writer reader : Guid) (recording : List (List values.ActValue)) (placed : List placed_spec.PlacedValue) → HasSpeech writer recording placed → max (from - 1) (answered_spec.last_among writer placed) ≡ delivery.last_announced_from from (speech.speech_by writer reader recording)
last_from from writer reader recording placed has = ap (max (from - 1)) (same_number _ _ to back) ∙ sym (last_announced_max from (speech.speech_by writer reader recording))
  where
    to : (n : ℕ) → n < answered_spec.last_among writer placed → n < delivery.last_announced_from 1 (speech.speech_by writer reader recording)
    to n lt =
        let number = below_greatest n (filter_map (λ (at : placed_spec.PlacedValue). speech.announced_for writer at.act) placed) lt in
        let from = made_from (λ (at : placed_spec.PlacedValue). speech.announced_for writer at.act) placed number.0 number.1 in
        let stands = stands_where 0 recording from.0 (has.there from.0 from.1) in
        let there = makes (speech.announced_for writer) stands.datagram from.0.act number.0 stands.among from.2 in
        let at = get_mapped (speech.said_by writer reader) recording stands.place stands.datagram stands.stands in
        last_at n stands.place _ (speech.speech_by writer reader recording) at (greatest_below n number.0 (filter_map (speech.announced_for writer) stands.datagram) there number.2)

    back : (n : ℕ) → n < delivery.last_announced_from 1 (speech.speech_by writer reader recording) → n < answered_spec.last_among writer placed
    back n lt =
        let found = at_last n (speech.speech_by writer reader recording) lt in
        let datagram = mapped_get (speech.said_by writer reader) recording found.0 found.1 found.2 in
        let acts = datagram.0 in
        let same = ap (λ (d : delivery.Datagram). delivery.greatest d.announced) datagram.2 in
        let here = found.3 in
        let number = below_greatest n (filter_map (speech.announced_for writer) acts) (omega (arith, same)) in
        let act = made_from (speech.announced_for writer) acts number.0 number.1 in
        let at : placed_spec.PlacedValue = record { datagram = 0 + found.0 + 1; act = act.0 } in
        let spoken = (if_some _ (speech.announced_of_body act.0.body) number.0 act.2).0 in
        let there = has.kept at (stands_there 0 found.0 recording datagram.0 act.0 datagram.1 act.1) spoken in
        greatest_below n number.0 _ (makes (λ (at : placed_spec.PlacedValue). speech.announced_for writer at.act) placed at number.0 there act.2) number.2

pub base_from : (pair : Pair) (recording : List (List values.ActValue)) → answered_spec.base_among (placed_spec.answers_among pair (placed_spec.placed_in recording)) ≡ greatest_base (speech.speech_by pair.writer pair.reader recording)
base_from pair recording = same_number _ _ to back
  where
    to : (n : ℕ) → n < answered_spec.base_among (placed_spec.answers_among pair (placed_spec.placed_in recording)) → n < greatest_base (speech.speech_by pair.writer pair.reader recording)
    to n lt =
        let number = below_greatest n (map (λ (answer : Answer). said.natural answer.base) (placed_spec.answers_among pair (placed_spec.placed_in recording))) lt in
        let answer = contains_mapped (λ (answer : Answer). said.natural answer.base) (placed_spec.answers_among pair (placed_spec.placed_in recording)) number.0 number.1 in
        let stands = answer_stands pair recording answer.0 answer.1 in
        let at = get_mapped (speech.said_by pair.writer pair.reader) recording stands.0 stands.1 stands.3 in
        let same : number.0 ≡ stands.2 = sym answer.2 ∙ ap said.natural stands.5 in
        let lt' = number.2 in
        base_at n stands.0 _ (speech.speech_by pair.writer pair.reader recording) at (greatest_below n stands.2 (speech.said_by pair.writer pair.reader stands.1).bases stands.6 (omega (arith, same)))

    back : (n : ℕ) → n < greatest_base (speech.speech_by pair.writer pair.reader recording) → n < answered_spec.base_among (placed_spec.answers_among pair (placed_spec.placed_in recording))
    back n lt =
        let found = at_base n (speech.speech_by pair.writer pair.reader recording) lt in
        let datagram = mapped_get (speech.said_by pair.writer pair.reader) recording found.0 found.1 found.2 in
        let same = ap (λ (d : delivery.Datagram). delivery.greatest d.bases) datagram.2 in
        let here = found.3 in
        let number = below_greatest n (speech.said_by pair.writer pair.reader datagram.0).bases (omega (arith, same)) in
        let there = answer_there pair recording found.0 datagram.0 number.0 datagram.1 number.1 in
        greatest_below n number.0 _ (mapped_contains (λ (answer : Answer). said.natural answer.base) (placed_spec.answers_among pair (placed_spec.placed_in recording)) _ there.1) number.2

-- ---- the verdict

verdict_known : {from : ℕ} (speech : delivery.Speech) (untold : Option Untold) (conflict : Option ℕ) (base last : ℕ) → 1 ≤ from → IsFirstUntold from speech untold
    → MatchOption conflict ((n : ℕ) → ¬ plain_verdict.SpeaksTwo from speech n) (run_verdict.IsLeast (plain_verdict.SpeaksTwo from speech)) → base ≡ max from (greatest_base speech) → last ≡ delivery.last_announced_from from speech
    → run_verdict.IsVerdictFrom from speech (answered_spec.verdict_by untold conflict base last)
verdict_known {from} speech (Some untold) conflict base last positive first two is_base is_last = from_plain from speech (Verdict.Unfounded untold.datagram untold.number) first
verdict_known {from} speech None (Some n) base last positive founded least is_base is_last = from_plain from speech (Verdict.Conflict (pos n)) (founded, least)
verdict_known {from} speech None None base last positive founded never is_base is_last = by_test (nat_le base last) refl
  where
    open_at : base ≤ last → run_verdict.IsLeast (plain_verdict.IsUnclaimed from speech) base
    open_at le = record {
      holds = (
        (omega (arith, is_base), omega (arith, is_base)),
        omega (arith, is_last),
        λ claimed. let below = below_from_claims base claimed.0 speech claimed.1 in omega (arith, is_base),
      );
      least = λ m unclaimed. elim (cases_lt m base) [
        | inl below ↦ absurd (let a = unclaimed.0.1 in unclaimed.2 (claimed_from_below m speech unclaimed.0 (omega (arith, is_base))))
        | inr above ↦ above
      ];
    }

    all : last < base → (n : ℕ) → delivery.IsAsked from n → n ≤ delivery.last_announced_from from speech → plain_verdict.IsClaimed from speech n
    all lt n asked announced = let a = asked.1 in claimed_from_below n speech asked (omega (arith, is_base, is_last))

    by_test : (b : Bool) → nat_le base last ≡ b → run_verdict.IsVerdictFrom from speech (if b then Verdict.Open (pos base) else Verdict.Complete (pos last))
    by_test true e =
        let le : base ≤ last = grind (arith, nat_tests) in
        from_plain from speech (Verdict.Open (pos base)) (founded, never, open_at le)
    by_test false e =
        let lt : last < base = grind (arith, nat_tests) in
        from_plain from speech (Verdict.Complete (pos last)) (ap pos is_last, founded, never, all lt)

-- The verdict is that on what the reader hears by these acts and on its answers.
pub record IsGivenBy (from : ℕ) (writer reader : Guid) (placed : List placed_spec.PlacedValue) (answers : List Answer) (verdict : Verdict) : Type 0 where
  pub untold : Option Untold
  pub conflict : Option ℕ
  pub last : ℕ
  pub first : answered_spec.IsUntoldAmong from writer reader placed answers untold
  pub least : MatchOption conflict ((n : ℕ) → ¬ answered_spec.HearsTwo from writer reader placed n) (run_verdict.IsLeast (answered_spec.HearsTwo from writer reader placed))
  pub announced : last ≡ max (from - 1) (answered_spec.last_among writer placed)
  pub value : verdict ≡ answered_spec.verdict_by untold conflict (max from (answered_spec.base_among answers)) last

-- by acts that have all that the writer says
pub verdict_of : (from : ℕ) (pair : Pair) (recording : List (List values.ActValue)) (placed : List placed_spec.PlacedValue) → HasSpeech pair.writer recording placed → (answers : List Answer) (verdict : Verdict) → 1 ≤ from
    → IsGivenBy from pair.writer pair.reader placed answers verdict → answers ≡ placed_spec.answers_among pair (placed_spec.placed_in recording) → run_verdict.IsVerdictFrom from (speech.speech_by pair.writer pair.reader recording) verdict
verdict_of from pair recording placed has answers verdict positive is are =
    let first = subst (λ l. answered_spec.IsUntoldAmong from pair.writer pair.reader placed l is.untold) are is.first in
    subst (run_verdict.IsVerdictFrom from (speech.speech_by pair.writer pair.reader recording)) (sym is.value)
    (verdict_known (speech.speech_by pair.writer pair.reader recording) is.untold is.conflict _ is.last positive (first_from from pair recording placed has is.untold first) (conflict_from from pair.writer pair.reader recording placed has is.conflict is.least)
    (ap (λ l. max from (answered_spec.base_among l)) are ∙ ap (max from) (base_from pair recording)) (is.announced ∙ last_from from pair.writer pair.reader recording placed has))

-- by the acts from the writer
pub verdict_given : (from : ℕ) (pair : Pair) (recording : List (List values.ActValue)) (answers : List Answer) (verdict : Verdict) → 1 ≤ from
    → IsGivenBy from pair.writer pair.reader (filter (placed_spec.is_from pair.writer) (placed_spec.placed_in recording)) answers verdict → answers ≡ placed_spec.answers_among pair (placed_spec.placed_in recording)
    → run_verdict.IsVerdictFrom from (speech.speech_by pair.writer pair.reader recording) verdict
verdict_given from pair recording answers verdict positive is are = verdict_of from pair recording (filter (placed_spec.is_from pair.writer) (placed_spec.placed_in recording)) (its_have pair.writer recording) answers verdict positive is are
