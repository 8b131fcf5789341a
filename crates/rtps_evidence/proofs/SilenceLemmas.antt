-- How far a walk over what a pair said came, for one number, step by step.
use Rattle.std.proofs.Common.{◌≡◌, ◌∙◌, ℕ, ◌+◌, ◌&&◌, ◌||◌, Bool, true, false, cond, nat_le, nat_lt, List, [], ◌∷◌, ◌++◌, refl, ap, arith, inl, inr, Option, Some, None}
use Rattle.std.specs.Prelude.{if◌then◌else◌, unwrap_or}
use Rattle.std.proofs.lemmas.Bool.{cases_lt}
use Rattle.std.proofs.lemmas.Bool.Decides.{nat_tests}
use Rattle.rtps_discovery.specs.declared.matching.Pair.{Pair}
use Rattle.rtps_receiver.specs.Said as said
use Rattle.rtps_receiver.specs.Speech as receiver_speech
use Rattle.rtps_receiver.specs.Values as values
use Rattle.rtps_audit.specs.Delivery as delivery
use Rattle.rtps_audit.specs.Placed as placed
use Rattle.rtps_audit.specs.Speech as audit_speech
use Rattle.rtps_evidence.specs.Locations as locations
use Rattle.rtps_evidence.specs.Outcomes as outcomes
use Rattle.rtps_evidence.specs.Questions as questions
use Rattle.rtps_evidence.specs.Received as received
use Rattle.rtps_evidence.specs.declared.location.Location.{Location}

-- ---- the writer tells numbers gone

or_no : (b : Bool) → (b || false) ≡ b
or_no b = grind (arith, nat_tests)

and_no : (b : Bool) → (b && false) ≡ false
and_no b = grind (arith, nat_tests)

-- what is told gone twice is told gone
pub told_twice : (times : List (Option ℕ)) (one other : ℕ) (s : outcomes.Silence) → outcomes.told_gone times other (outcomes.told_gone times one s) ≡ outcomes.told_gone times one s
told_twice times one other s = grind (arith, nat_tests)

-- it stays so, whatever is asked
pub stays_told : (times : List (Option ℕ)) (one other : ℕ) (s : outcomes.Silence) → outcomes.asked_about other (outcomes.told_gone times one s) ≡ outcomes.told_gone times one s
stays_told times one other s = grind (arith, nat_tests)

-- what asks is a HEARTBEAT: the numbers below its first are gone, and those up to its last asked about
record Asks (n : ℕ) (gone asks : Bool) (announced : ℕ) : Type 0 where
  first : ℕ
  gone_below : gone ≡ nat_lt n first
  asked_up : asks ≡ (nat_le first n && nat_le n announced)

asks_so : (n : ℕ) (behind spoken hears : Bool) (body : values.ActBodyValue) → (behind && (spoken && (hears && questions.is_question body))) ≡ true
    → Asks n (received.is_gone (if spoken && hears then audit_speech.word_of body n else None)) ((behind && (spoken && (hears && questions.is_question body))) && outcomes.is_offered body n) (unwrap_or (if spoken && hears then said.said body else said.nothing).announced 0)
asks_so n true true true (values.ActBodyValue.Heartbeat value) e = record { first = value.first; gone_below = alone (nat_lt n value.first); asked_up = ap (λ b. b && outcomes.is_offered (values.ActBodyValue.Heartbeat value) n) e }
  where
    alone : (b : Bool) → received.is_gone (if b then Some delivery.Word.Gone else None) ≡ b
    alone true = refl
    alone false = refl
asks_so n true true true (values.ActBodyValue.Data value) e = cc
asks_so n true true true (values.ActBodyValue.AckNack value) e = cc
asks_so n true true true (values.ActBodyValue.Gap value) e = cc
asks_so n true true true (values.ActBodyValue.DataFrag value) e = cc
asks_so n true true true (values.ActBodyValue.NackFrag value) e = cc
asks_so n true true false body e = cc
asks_so n true false hears body e = cc
asks_so n false spoken hears body e = cc

-- behind it
pub heard_question : (times : List (Option ℕ)) (since : Option Location) (pair : Pair) (n : ℕ) (x : placed.PlacedValue) (s : outcomes.Silence) (end : ℕ) → questions.questions_behind since pair.writer pair.reader x ≡ true
    → end ≡ unwrap_or (locations.said_to pair.writer pair.reader x).announced 0 + 1
    → cond (nat_lt n end) (outcomes.asked_about x.datagram (cond (received.withdraws pair.writer pair.reader n x) (outcomes.told_gone times x.datagram s) s)) (cond (received.withdraws pair.writer pair.reader n x) (outcomes.told_gone times x.datagram s) s)
    ≡ outcomes.heard times since pair n x s
heard_question times since pair n x s end asks ends =
    let so = asks_so n (locations.is_behind since x) (receiver_speech.is_spoken_by x.act pair.writer) (receiver_speech.is_heard_by x.act pair.reader) x.act.body asks in
    elim (cases_lt n so.first) [
      | inl lt ↦
          let one : nat_lt n so.first ≡ true = grind (arith, nat_tests) in
          let gone : received.withdraws pair.writer pair.reader n x ≡ true = so.gone_below ∙ one in
          rw gone (told_stays (nat_lt n end))
      | inr ge ↦
          let one : nat_lt n so.first ≡ false = grind (arith, nat_tests) in
          let gone : received.withdraws pair.writer pair.reader n x ≡ false = so.gone_below ∙ one in
          let three : nat_le so.first n ≡ true = grind (arith, nat_tests) in
          let asked : (questions.questions_behind since pair.writer pair.reader x && outcomes.is_offered x.act.body n) ≡ nat_le n (unwrap_or (locations.said_to pair.writer pair.reader x).announced 0) = so.asked_up ∙ ap (λ b. b && nat_le n (unwrap_or (locations.said_to pair.writer pair.reader x).announced 0)) three in
          let four : nat_lt n end ≡ nat_le n (unwrap_or (locations.said_to pair.writer pair.reader x).announced 0) = (let same = ends in grind (arith, nat_tests, same)) in
          rw (gone, asked, four) refl
    ]
  where
    told_stays : (b : Bool) → cond b (outcomes.asked_about x.datagram (outcomes.told_gone times x.datagram s)) (outcomes.told_gone times x.datagram s) ≡ outcomes.told_gone times x.datagram s
    told_stays true = stays_told times x.datagram x.datagram s
    told_stays false = refl

-- ---- one act more

pub walked_more : (times : List (Option ℕ)) (since : Option Location) (pair : Pair) (n : ℕ) (walk : outcomes.Walk) (xs : List placed.PlacedValue) (x : placed.PlacedValue) → outcomes.walked_all times since pair n walk (xs ++ x ∷ []) ≡ outcomes.walked times since pair n (outcomes.walked_all times since pair n walk xs) x
walked_more times since pair n walk [] x = refl
walked_more times since pair n walk (y ∷ ys) x = walked_more times since pair n (outcomes.walked times since pair n walk y) ys x
