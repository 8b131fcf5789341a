-- What an account has after one act more, and after one answer more.
use Rattle.std.proofs.Common.{◌≡◌, ℕ, ℤ, pos, negsuc, ◌-◌, ◌<◌, ◌≤◌, Bool, true, false, ◌&&◌, ◌||◌, List, [], ◌∷◌, ◌++◌, map, max, set, Option, Some, None, inl, inr, refl, sym, ap, ◌∙◌, subst, arith}
use Rattle.std.specs.Prelude.{Contains, if◌then◌else◌, is_some}
use Rattle.std.specs.List.{All}
use Rattle.std.proofs.lemmas.Bool.{cases_lt, or_cases, or_left, or_right}
use Rattle.std.proofs.lemmas.Int.{ints}
use Rattle.std.proofs.lemmas.List.Elements.{All-contains, All-contains_itself, All-weaker, Contains-append_left, Contains-push, Contains-push_cases}
use Rattle.rtps_ids.specs.declared.identity.EntityId.{EntityId}
use Rattle.rtps_ids.specs.declared.identity.Guid.{Guid}
use Rattle.rtps_coverage.specs.Coverage as coverage
use Rattle.rtps_receiver.specs.Speech as receiver_speech
use Rattle.rtps_receiver.specs.Said as said
use Rattle.rtps_audit.specs.Account as account
use Rattle.rtps_audit.specs.Answered as answered
use Rattle.rtps_audit.specs.Delivery as delivery
use Rattle.rtps_audit.specs.Placed as placed_spec
use Rattle.rtps_audit.specs.Speech as speech
use Rattle.rtps_audit.specs.declared.account.Account.{Account}
use Rattle.rtps_audit.specs.declared.answer.Answer.{Answer}
use Rattle.rtps_audit.specs.declared.verdict.Claims.{Claims}
use Rattle.rtps_audit.specs.declared.verdict.Untold.{Untold}
use Rattle.rtps_audit.proofs.Greatest.{below_greatest, greatest_below}
use Rattle.rtps_audit.proofs.IndexSpeech.{contains_mapped, mapped_contains, same_number}
use Rattle.rtps_audit.proofs.PayloadHearing.{from_speaks}
use Rattle.rtps_audit.proofs.WordLemmas.{some_word, word_some}

-- ---- what is told

-- who hears what the writer says hears its words
word_if_heard : (writer reader : Guid) (at : placed_spec.PlacedValue) (n : ℕ) → placed_spec.is_from writer at ≡ true
    → is_some (speech.word_for writer reader at.act n) ≡ (receiver_speech.is_heard_by at.act reader && is_some (speech.word_of at.act.body n))
word_if_heard writer reader at n from = by_tests (receiver_speech.is_spoken_by at.act writer) (receiver_speech.is_heard_by at.act reader) (speech.word_of at.act.body n) spoken
  where
    none_named : (b : Bool) → (b && (false || false)) ≡ false
    none_named true = refl
    none_named false = refl

    by_named : (named : Option EntityId) → receiver_speech.reader_named at.act.body ≡ named → receiver_speech.is_heard_by at.act reader ≡ true → receiver_speech.is_spoken_by at.act writer ≡ true
    by_named (Some named) e heard = from_speaks writer at named from e
    by_named None e heard =
        absurd (let clash : true ≡ false = sym heard ∙ ap (λ named. receiver_speech.is_among at.act.dest named reader) e ∙ none_named (receiver_speech.is_for_all at.act.dest || receiver_speech.is_for at.act.dest reader.prefix) in cc)

    spoken : receiver_speech.is_heard_by at.act reader ≡ true → receiver_speech.is_spoken_by at.act writer ≡ true
    spoken = by_named (receiver_speech.reader_named at.act.body) refl

    by_tests : (a b : Bool) (word : Option delivery.Word) → (b ≡ true → a ≡ true) → is_some (if a && b then word else None) ≡ (b && is_some word)
    by_tests true true word f = refl
    by_tests true false word f = refl
    by_tests false true word f = absurd (let clash : false ≡ true = f refl in cc)
    by_tests false false word f = refl

pub heard_on : (from : ℕ) (old new : ℕ → Bool) (writer reader : Guid) (placed : List placed_spec.PlacedValue) (p : placed_spec.PlacedValue) → placed_spec.is_from writer p ≡ true
    → coverage.TellsMore old new (λ n. receiver_speech.is_heard_by p.act reader && is_some (speech.word_of p.act.body n)) → account.HasHeard from old writer reader placed → account.HasHeard from new writer reader (placed ++ p ∷ [])
heard_on from old new writer reader placed p its tells known n asked small = (to, back)
  where
    more : new n ≡ (old n || is_some (speech.word_for writer reader p.act n))
    more = tells n asked.0 small ∙ ap (λ b. old n || b) (sym (word_if_heard writer reader p n its))

    to : new n ≡ true → (word : delivery.Word) × answered.IsHeard writer reader (placed ++ p ∷ []) n word
    to is = elim (or_cases (old n) (is_some (speech.word_for writer reader p.act n)) (sym more ∙ is)) [
      | inl before ↦ let told = (known n asked small).0 before in (told.0, record { at = told.1.at; among = Contains-append_left placed (p ∷ []) told.1.at told.1.among; says = told.1.says })
      | inr now ↦ let some = some_word (speech.word_for writer reader p.act n) now in (some.0, record { at = p; among = Contains-push placed p; says = some.1 })
    ]

    back : ((word : delivery.Word) × answered.IsHeard writer reader (placed ++ p ∷ []) n word) → new n ≡ true
    back (word, heard) = elim (Contains-push_cases placed p heard.at heard.among) [
      | inl before ↦ more ∙ or_left (old n) _ ((known n asked small).1 (word, record { at = heard.at; among = before; says = heard.says }))
      | inr now ↦ more ∙ or_right (old n) _ (word_some (speech.word_for writer reader p.act n) word (subst (λ (q : placed_spec.PlacedValue). speech.word_for writer reader q.act n ≡ Some word) (sym now) heard.says))
    ]

pub hears_on : (from : ℕ) (old new : ℕ → Bool) (writer reader : Guid) (placed : List placed_spec.PlacedValue) (p : placed_spec.PlacedValue) → placed_spec.is_from writer p ≡ true
    → coverage.TellsMore old new (λ n. receiver_speech.is_heard_by p.act reader && is_some (speech.word_of p.act.body n)) → account.HasHeardOrUnasked from old writer reader placed → account.HasHeardOrUnasked from new writer reader (placed ++ p ∷ [])
hears_on from old new writer reader placed p its tells known = record {
  passed = λ n positive lt small. tells n positive small ∙ or_left (old n) _ (known.passed n positive lt small);
  heard = heard_on from old new writer reader placed p its tells known.heard;
}

-- ---- the front before an answer

-- the least number that the reader was not told of, where all that it was told stands before a datagram
pub front_by : (from : ℕ) (set : ℕ → Bool) (front : ℤ) (writer reader : Guid) (placed : List placed_spec.PlacedValue) (datagram : ℕ) → 1 ≤ datagram → All (λ at. at.datagram < datagram) placed → account.HasHeardOrUnasked from set writer reader placed
    → coverage.IsFront set front → answered.IsFrontBy from writer reader placed (datagram - 1) front
front_by from set (negsuc n) writer reader placed datagram counted early known is = absurd (let low = is.positive in omega (arith, ints))
front_by from set (pos n) writer reader placed datagram counted early known is = record {
  positive = is.positive;
  outside = λ m at small.
      let same : m ≡ n = omega (arith, ints, at) in
      let out : set m ≡ false = ap set same ∙ is.outside in
      let asked : delivery.IsAsked from m = (
        let low = is.positive in omega (arith, ints),
        elim (cases_lt m from) [ inl lt ↦ absurd (let yes = known.passed m (let low = is.positive in omega (arith, ints)) lt small in let clash : true ≡ false = sym yes ∙ out in cc) | inr ge ↦ ge ],
      ) in (
        asked,
        λ told. let yes = (known.heard m asked small).1 (told.0, told.1.0) in let clash : true ≡ false = sym yes ∙ out in cc,
      );
  below = λ m asked small lt.
      let heard = (known.heard m asked small).0 (is.below m asked.0 lt) in
      (heard.0, (heard.1, let first = All-contains (λ (at : placed_spec.PlacedValue). at.datagram < datagram) placed heard.1.at early heard.1.among in omega arith));
}

-- ---- claims, where an act more is heard

-- what was told is told
told_more : (writer reader : Guid) (placed : List placed_spec.PlacedValue) (p : placed_spec.PlacedValue) (datagram n : ℕ) → answered.IsToldBy writer reader placed datagram n → answered.IsToldBy writer reader (placed ++ p ∷ []) datagram n
told_more writer reader placed p datagram n told = (told.0, (record { at = told.1.0.at; among = Contains-append_left placed (p ∷ []) told.1.0.at told.1.0.among; says = told.1.0.says }, told.1.1))

-- and no more before the datagram of the act
told_less : (writer reader : Guid) (placed : List placed_spec.PlacedValue) (p : placed_spec.PlacedValue) (datagram n : ℕ) → datagram < p.datagram → answered.IsToldBy writer reader (placed ++ p ∷ []) datagram n → answered.IsToldBy writer reader placed datagram n
told_less writer reader placed p datagram n behind told = elim (Contains-push_cases placed p told.1.0.at told.1.0.among) [
  | inl before ↦ (told.0, (record { at = told.1.0.at; among = before; says = told.1.0.says }, told.1.1))
  | inr now ↦ absurd (let at = ap (λ (q : placed_spec.PlacedValue). q.datagram) now in let until = told.1.1 in omega arith)
]

all_more : (from : ℕ) (writer reader : Guid) (placed : List placed_spec.PlacedValue) (p : placed_spec.PlacedValue) (answer : Answer) → answered.IsToldAll from writer reader placed answer → answered.IsToldAll from writer reader (placed ++ p ∷ []) answer
all_more from writer reader placed p answer told n asked lt = told_more writer reader placed p (answer.datagram - 1) n (told n asked lt)

untold_more : (from : ℕ) (writer reader : Guid) (placed : List placed_spec.PlacedValue) (p : placed_spec.PlacedValue) (answers : List Answer) (untold : Option Untold) → All (λ (answer : Answer). 1 ≤ answer.datagram) answers → All (λ (answer : Answer). answer.datagram ≤ p.datagram) answers
    → answered.IsUntoldAmong from writer reader placed answers untold → answered.IsUntoldAmong from writer reader (placed ++ p ∷ []) answers untold
untold_more from writer reader placed p answers None counted behind known = All-weaker (answered.IsToldAll from writer reader placed) (answered.IsToldAll from writer reader (placed ++ p ∷ [])) (all_more from writer reader placed p) answers known
untold_more from writer reader placed p answers (Some untold) counted behind known =
    let positive = All-contains (λ (answer : Answer). 1 ≤ answer.datagram) answers known.answer counted known.among in
    let before = All-contains (λ (answer : Answer). answer.datagram ≤ p.datagram) answers known.answer behind known.among in
    record {
      answer = known.answer;
      among = known.among;
      datagram = known.datagram;
      below = known.below;
      small = known.small;
      front = record {
        positive = known.front.positive;
        outside = λ n at small. let out = known.front.outside n at small in (out.0, λ told. out.1 (told_less writer reader placed p (known.answer.datagram - 1) n (omega arith) told));
        below = λ n asked small lt. told_more writer reader placed p (known.answer.datagram - 1) n (known.front.below n asked small lt);
      };
      first = All-weaker (λ (other : Answer). other.datagram < untold.datagram → answered.IsToldAll from writer reader placed other) (λ (other : Answer). other.datagram < untold.datagram → answered.IsToldAll from writer reader (placed ++ p ∷ []) other)
          (λ other told lt. all_more from writer reader placed p other (told lt)) answers known.first;
    }

-- the account stands for an act of the writer more, where none of the answers is behind it
pub stands_on : {C : Type 0} (covered : C → ℕ → Bool) (from : ℕ) (writer : Guid) (placed : List placed_spec.PlacedValue) (answers : List Answer) (p : placed_spec.PlacedValue) (old new : Account C) → placed_spec.is_from writer p ≡ true
    → All (λ (answer : Answer). 1 ≤ answer.datagram) answers → All (λ (answer : Answer). answer.datagram ≤ p.datagram) answers → account.Hears covered p.act old new → account.Stands covered from writer placed answers old → account.Stands covered from writer (placed ++ p ∷ []) answers new
stands_on covered from writer placed answers p old new its counted behind hears known = record {
  told = subst (λ (r : Guid). account.HasHeardOrUnasked from (covered new.told) writer r (placed ++ p ∷ [])) (sym (ap (λ (q : _). q.reader) hears.pair))
      (hears_on from (covered old.told) (covered new.told) writer old.pair.reader placed p its hears.told known.told);
  claims = subst (λ (r : Guid). account.AreClaimsOf from writer r (placed ++ p ∷ []) answers new.claims) (sym (ap (λ (q : _). q.reader) hears.pair))
      (subst (account.AreClaimsOf from writer old.pair.reader (placed ++ p ∷ []) answers) (sym hears.claims)
      (record { asking = known.claims.asking; untold = untold_more from writer old.pair.reader placed p answers old.claims.untold counted behind known.claims.untold; base = known.claims.base }));
}

-- ---- answers in another order

all_same : (P : Answer → Type 0) (xs ys : List Answer) → account.HaveSame xs ys → All P xs → All P ys
all_same P xs ys same known = All-weaker (Contains ys) P (λ answer among. All-contains P xs answer known ((same answer).1 among)) ys (All-contains_itself ys)

untold_same : (from : ℕ) (writer reader : Guid) (placed : List placed_spec.PlacedValue) (xs ys : List Answer) (untold : Option Untold) → account.HaveSame xs ys → answered.IsUntoldAmong from writer reader placed xs untold → answered.IsUntoldAmong from writer reader placed ys untold
untold_same from writer reader placed xs ys None same known = all_same (answered.IsToldAll from writer reader placed) xs ys same known
untold_same from writer reader placed xs ys (Some untold) same known = record {
  answer = known.answer;
  among = (same known.answer).0 known.among;
  datagram = known.datagram;
  below = known.below;
  small = known.small;
  front = known.front;
  first = all_same (λ (other : Answer). other.datagram < untold.datagram → answered.IsToldAll from writer reader placed other) xs ys same known.first;
}

-- the base of an answer
abbrev base_of : Answer → ℕ
base_of answer = said.natural answer.base

base_same : (xs ys : List Answer) → account.HaveSame xs ys → answered.base_among xs ≡ answered.base_among ys
base_same xs ys same = same_number (answered.base_among xs) (answered.base_among ys) (λ n. into n xs ys (λ answer. (same answer).0)) (λ n. into n ys xs (λ answer. (same answer).1))
  where
    into : (n : ℕ) (xs ys : List Answer) → ((answer : Answer) → Contains xs answer → Contains ys answer) → n < answered.base_among xs → n < answered.base_among ys
    into n xs ys to lt =
        let found = below_greatest n (map base_of xs) lt in
        let from = contains_mapped base_of xs found.0 found.1 in
        greatest_below n found.0 (map base_of ys) (subst (Contains (map base_of ys)) from.2 (mapped_contains base_of ys from.0 (to from.0 from.1))) found.2

pub claims_same : {from : ℕ} (writer reader : Guid) (placed : List placed_spec.PlacedValue) (xs ys : List Answer) (claims : Claims) → account.HaveSame xs ys → account.AreClaimsOf from writer reader placed xs claims → account.AreClaimsOf from writer reader placed ys claims
claims_same {from} writer reader placed xs ys claims same known =
    record { asking = known.asking; untold = untold_same from writer reader placed xs ys claims.untold same known.untold; base = known.base ∙ ap (max from) (base_same xs ys same) }
