-- What is claimed up to a datagram, and what is received by that.
use Rattle.std.proofs.lemmas.Grind.{common_steps}
use Rattle.std.proofs.Common.{◌≡◌, ◌∙◌, ℕ, ◌<◌, ◌≤◌, ◌&&◌, ◌||◌, Bool, true, false, nat_le, nat_lt, not, max, map, filter, List, [], ◌∷◌, ◌++◌, Option, Some, None, refl, sym, ap, arith, rules}
use Rattle.std.specs.Prelude.{Contains, unwrap_or, if◌then◌else◌}
use Rattle.std.specs.List.{cons_option, list_any}
use Rattle.std.proofs.lemmas.Bool.{cases_lt, and_parts, not-true, false_from_ne_true}
use Rattle.std.proofs.lemmas.Bool.Decides.{nat_tests}
use Rattle.std.proofs.lemmas.List.Folds.{list_any-append, list_any-from_Any}
use Rattle.std.proofs.Math.Bool.{and-false}
use Rattle.rtps_ids.specs.declared.identity.Guid.{Guid}
use Rattle.rtps_discovery.specs.declared.matching.Pair.{Pair}
use Rattle.rtps_receiver.specs.Speech as receiver_speech
use Rattle.rtps_receiver.specs.Values as values
use Rattle.rtps_audit.specs.Delivery as delivery
use Rattle.rtps_audit.specs.Placed as placed_spec
use Rattle.rtps_receiver.specs.Said as said
use Rattle.rtps_audit.specs.Speech as audit_speech
use Rattle.rtps_audit.specs.declared.answer.Answer.{Answer}
use Rattle.rtps_audit.proofs.Offered.{speaker_is_origin}
use Rattle.rtps_coverage.specs.Stretches as stretches
use Rattle.rtps_coverage.specs.declared.stretch.Stretch.{Stretch}
use Rattle.rtps_evidence.specs.Claimed as claimed
use Rattle.rtps_evidence.specs.Locations as locations
use Rattle.rtps_evidence.specs.Received as received
use Rattle.rtps_evidence.proofs.AnswerLemmas.{bases_same}
use Rattle.rtps_evidence.proofs.FindLemmas.{any_filter, find_filter}
use Rattle.rtps_evidence.proofs.PlacedOrder.{first_is_first, found_is_there, none_found, placed_ordered, some_passes}

or_false : (b : Bool) → (b || false) ≡ b
or_false b = grind (arith, nat_tests)

never_both : (b : Bool) → b ≡ true → b ≡ false → ⊥
never_both b holds fails = let clash : true ≡ false = sym holds ∙ fails in cc

-- an element that passes
any_of : {X : Type 0} (test : X → Bool) (xs : List X) (x : X) → Contains xs x → test x ≡ true → list_any test xs ≡ true
any_of test xs x (k, lt, e) is = list_any-from_Any test xs (k, x, lt, e, is)

-- ---- what is claimed

claimed_same : (pair : Pair) (placed : List placed_spec.PlacedValue) (datagram n : ℕ)
    → list_any (claimed.claims_up_to datagram n) (placed_spec.answers_among pair placed) ≡ list_any (λ at. nat_le at.datagram datagram && received.claims pair.writer pair.reader n at) placed
claimed_same pair [] datagram n = refl
claimed_same pair (x ∷ placed) datagram n = by (audit_speech.base_for pair.writer pair.reader x.act) (claimed_same pair placed datagram n)
  where
    by : (base : Option ℕ) → list_any (claimed.claims_up_to datagram n) (placed_spec.answers_among pair placed) ≡ list_any (λ at. nat_le at.datagram datagram && received.claims pair.writer pair.reader n at) placed
        → list_any (claimed.claims_up_to datagram n) (cons_option (placed_spec.answer_at x.datagram x.act.at base) (placed_spec.answers_among pair placed))
        ≡ ((nat_le x.datagram datagram && nat_lt n (unwrap_or base 0)) || list_any (λ at. nat_le at.datagram datagram && received.claims pair.writer pair.reader n at) placed)
    by None h =
        let none : nat_lt n 0 ≡ false = grind (arith, nat_tests) in
        h ∙ sym (ap (λ b. b || list_any (λ at. nat_le at.datagram datagram && received.claims pair.writer pair.reader n at) placed) (ap (λ b. nat_le x.datagram datagram && b) none ∙ and-false (nat_le x.datagram datagram)))
    by (Some base) h = ap (λ b. (nat_le x.datagram datagram && nat_lt n base) || b) h

below_greatest : {X : Type 0} (number : X → ℕ) (xs : List X) (n : ℕ) → nat_lt n (delivery.greatest (map number xs)) ≡ list_any (λ x. nat_lt n (number x)) xs
below_greatest number [] n = grind (arith, nat_tests)
below_greatest number (x ∷ xs) n = of_max (number x) (delivery.greatest (map number xs)) ∙ ap (λ b. nat_lt n (number x) || b) (below_greatest number xs n)
  where
    of_max : (a b : ℕ) → nat_lt n (max a b) ≡ (nat_lt n a || nat_lt n b)
    of_max a b = grind (arith, nat_tests)

-- ---- who says it

spoken_word : (said heard : Bool) (word : Option delivery.Word) (test : Option delivery.Word → Bool) → test None ≡ false → test (if said && heard then word else None) ≡ true → said ≡ true
spoken_word said heard word test h h2 = grind (arith, nat_tests)

pub sender : (writer reader : Guid) (n : ℕ) (at : placed_spec.PlacedValue) → locations.sends writer reader n at ≡ true → placed_spec.is_from writer at ≡ true
sender writer reader n at is = search rules

pub withdrawer : (writer reader : Guid) (n : ℕ) (at : placed_spec.PlacedValue) → received.withdraws writer reader n at ≡ true → placed_spec.is_from writer at ≡ true
withdrawer writer reader n at is = speaker_is_origin writer at (spoken_word (receiver_speech.is_spoken_by at.act writer) (receiver_speech.is_heard_by at.act reader) (audit_speech.word_of at.act.body n) received.is_gone refl is)

-- ---- what is claimed first

-- where no claim stands up to a datagram, the first one stands behind it
before_first : (pair : Pair) (placed : List placed_spec.PlacedValue) (answers : List Answer) (datagram n : ℕ) (claim : placed_spec.PlacedValue) → answers ≡ placed_spec.answers_among pair placed
    → Contains placed claim → received.claims pair.writer pair.reader n claim ≡ true → list_any (claimed.claims_up_to datagram n) answers ≡ false → datagram < claim.datagram
before_first pair placed answers datagram n claim same among claiming none = grind (arith, nat_tests, common_steps, cases_lt, any_of, never_both, claimed_same)

-- and the other way round
no_claim_before : (pair : Pair) (recording : List (List values.ActValue)) (answers : List Answer) (datagram n : ℕ) (claim : placed_spec.PlacedValue) → answers ≡ placed_spec.answers_among pair (placed_spec.placed_in recording)
    → received.first_claiming pair.writer pair.reader n (placed_spec.placed_in recording) ≡ Some claim → datagram < claim.datagram → list_any (claimed.claims_up_to datagram n) answers ≡ false
no_claim_before pair recording answers datagram n claim same found before =
    false_from_ne_true (list_any (claimed.claims_up_to datagram n) answers) (λ some.
    let any = sym (ap (list_any (claimed.claims_up_to datagram n)) same ∙ claimed_same pair (placed_spec.placed_in recording) datagram n) ∙ some in
    let at = some_passes (λ (at : placed_spec.PlacedValue). nat_le at.datagram datagram && received.claims pair.writer pair.reader n at) (placed_spec.placed_in recording) any in
    let tests = and_parts (nat_le at.0.datagram datagram) (received.claims pair.writer pair.reader n at.0) at.2 in
    let le = first_is_first (received.claims pair.writer pair.reader n) 1 (placed_spec.placed_in recording) at.0 claim (placed_ordered 0 recording) found at.1 tests.1 in
    let up_to : at.0.datagram ≤ datagram = (let t = tests.0 in grind (arith, nat_tests, t)) in
    omega arith)

-- so a number is not claimed up to a datagram where that stands before the first claim
unclaimed_before : (pair : Pair) (recording : List (List values.ActValue)) (answers : List Answer) (n : ℕ) (claim : placed_spec.PlacedValue) → answers ≡ placed_spec.answers_among pair (placed_spec.placed_in recording)
    → received.first_claiming pair.writer pair.reader n (placed_spec.placed_in recording) ≡ Some claim → (datagram : ℕ) → not (list_any (claimed.claims_up_to datagram n) answers) ≡ nat_lt datagram claim.datagram
unclaimed_before pair recording answers n claim same found datagram = grind (arith, nat_tests, common_steps, found_is_there, before_first, not-true, no_claim_before)

any_same : {X : Type 0} (one other : X → Bool) → ((x : X) → one x ≡ other x) → (xs : List X) → list_any one xs ≡ list_any other xs
any_same one other h xs = grind (arith, nat_tests)

-- a number is below the greatest base where some answer claims it
base_same : (pair : Pair) (placed : List placed_spec.PlacedValue) (answers : List Answer) (n : ℕ) → answers ≡ placed_spec.answers_among pair placed → nat_lt n (delivery.greatest (map (λ answer. said.natural answer.base) answers)) ≡ list_any (received.claims pair.writer pair.reader n) placed
base_same pair placed answers n same =
    ap (nat_lt n) (ap (λ (all : List Answer). delivery.greatest (map (λ answer. said.natural answer.base) all)) same ∙ bases_same pair placed)
    ∙ below_greatest (locations.base_said pair.writer pair.reader) placed n

is_below : (pair : Pair) (placed : List placed_spec.PlacedValue) (answers : List Answer) (n : ℕ) (claim : placed_spec.PlacedValue) → answers ≡ placed_spec.answers_among pair placed → received.first_claiming pair.writer pair.reader n placed ≡ Some claim
    → nat_lt n (delivery.greatest (map (λ answer. said.natural answer.base) answers)) ≡ true
is_below pair placed answers n claim same found =
    let there = found_is_there (received.claims pair.writer pair.reader n) placed claim found in
    base_same pair placed answers n same ∙ any_of (received.claims pair.writer pair.reader n) placed claim there.0 there.1

is_past : (pair : Pair) (placed : List placed_spec.PlacedValue) (answers : List Answer) (n : ℕ) → answers ≡ placed_spec.answers_among pair placed → received.first_claiming pair.writer pair.reader n placed ≡ None
    → nat_lt n (delivery.greatest (map (λ answer. said.natural answer.base) answers)) ≡ false
is_past pair placed answers n same none =
    base_same pair placed answers n same
    ∙ false_from_ne_true (list_any (received.claims pair.writer pair.reader n) placed) (λ some.
    let claim = some_passes (received.claims pair.writer pair.reader n) placed some in
    none_found (received.claims pair.writer pair.reader n) placed claim.0 none claim.1 claim.2)

-- ---- what is received

-- what the writer says of a number before it is claimed is what all acts say before the first claim
early_same : (test : placed_spec.PlacedValue → Bool) (pair : Pair) (recording : List (List values.ActValue)) (answers : List Answer) (n : ℕ) (claim : placed_spec.PlacedValue) → answers ≡ placed_spec.answers_among pair (placed_spec.placed_in recording)
    → received.first_claiming pair.writer pair.reader n (placed_spec.placed_in recording) ≡ Some claim → ((at : placed_spec.PlacedValue) → test at ≡ true → placed_spec.is_from pair.writer at ≡ true)
    → list_any (λ at. claimed.is_unclaimed answers n at && test at) (filter (placed_spec.is_from pair.writer) (placed_spec.placed_in recording)) ≡ list_any (λ at. nat_lt at.datagram claim.datagram && test at) (placed_spec.placed_in recording)
early_same test pair recording answers n claim same found says =
    any_filter (λ (at : placed_spec.PlacedValue). claimed.is_unclaimed answers n at && test at) (placed_spec.is_from pair.writer) (λ at passes. says at (and_parts (claimed.is_unclaimed answers n at) (test at) passes).1) (placed_spec.placed_in recording)
    ∙ any_same (λ (at : placed_spec.PlacedValue). claimed.is_unclaimed answers n at && test at) (λ (at : placed_spec.PlacedValue). nat_lt at.datagram claim.datagram && test at)
    (λ at. ap (λ b. b && test at) (unclaimed_before pair recording answers n claim same found at.datagram)) (placed_spec.placed_in recording)

-- what has no payload before it is claimed, or is told gone before that, or is not claimed, is not received
pub lacking_same : (pair : Pair) (recording : List (List values.ActValue)) (answers : List Answer) (n : ℕ) → answers ≡ placed_spec.answers_among pair (placed_spec.placed_in recording)
    → ((not (list_any (claimed.sends_early answers pair n) (filter (placed_spec.is_from pair.writer) (placed_spec.placed_in recording))) || list_any (claimed.withdraws_early answers pair n) (filter (placed_spec.is_from pair.writer) (placed_spec.placed_in recording)))
    || not (nat_lt n (delivery.greatest (map (λ answer. said.natural answer.base) answers)))) ≡ not (received.is_received pair.writer pair.reader (placed_spec.placed_in recording) n)
lacking_same pair recording answers n same = by (received.first_claiming pair.writer pair.reader n (placed_spec.placed_in recording)) refl
  where
    all : List placed_spec.PlacedValue
    all = placed_spec.placed_in recording

    its : List placed_spec.PlacedValue
    its = filter (placed_spec.is_from pair.writer) (placed_spec.placed_in recording)

    or_true : (b : Bool) → (b || true) ≡ true
    or_true true = refl
    or_true false = refl

    alone : (sent gone : Bool) → (not sent || gone) ≡ not (sent && not gone)
    alone true true = refl
    alone true false = refl
    alone false gone = refl

    by : (claim : Option placed_spec.PlacedValue) → received.first_claiming pair.writer pair.reader n (placed_spec.placed_in recording) ≡ claim
        → ((not (list_any (claimed.sends_early answers pair n) its) || list_any (claimed.withdraws_early answers pair n) its) || not (nat_lt n (delivery.greatest (map (λ answer. said.natural answer.base) answers))))
        ≡ not (received.is_certain_by pair.writer pair.reader n (placed_spec.placed_in recording) claim)
    by None found =
        ap (λ b. (not (list_any (claimed.sends_early answers pair n) its) || list_any (claimed.withdraws_early answers pair n) its) || not b) (is_past pair all answers n same found)
        ∙ or_true (not (list_any (claimed.sends_early answers pair n) its) || list_any (claimed.withdraws_early answers pair n) its)
    by (Some claim) found =
        ap (λ b. (not (list_any (claimed.sends_early answers pair n) its) || list_any (claimed.withdraws_early answers pair n) its) || not b) (is_below pair all answers n claim same found)
        ∙ or_false (not (list_any (claimed.sends_early answers pair n) its) || list_any (claimed.withdraws_early answers pair n) its)
        ∙ ap (λ b. not b || list_any (claimed.withdraws_early answers pair n) its) (early_same (locations.sends pair.writer pair.reader n) pair recording answers n claim same found (λ at is. sender pair.writer pair.reader n at is))
        ∙ ap (λ b. not (list_any (received.sends_before pair.writer pair.reader n claim.datagram) all) || b) (early_same (received.withdraws pair.writer pair.reader n) pair recording answers n claim same found (λ at is. withdrawer pair.writer pair.reader n at is))
        ∙ alone (list_any (received.sends_before pair.writer pair.reader n claim.datagram) all) (list_any (received.withdraws_before pair.writer pair.reader n claim.datagram) all)

-- the same as stretches
pub put_together : (rest gone lacking : List Stretch) (n lo hi : ℕ) (early told : Bool) → n < hi → lacking ≡ (rest ++ gone) ++ (let one : Stretch = record { lo = lo; hi = hi } in one) ∷ []
    → stretches.stretches_have rest n ≡ not early → stretches.stretches_have gone n ≡ told → stretches.stretches_have lacking n ≡ ((not early || told) || not (nat_lt n lo))
put_together rest gone lacking n lo hi early told lt is no_early its =
    ap (λ l. stretches.stretches_have l n) is
    ∙ list_any-append (stretches.stretch_has n) (rest ++ gone) ((let one : Stretch = record { lo = lo; hi = hi } in one) ∷ [])
    ∙ ap (λ b. b || ((nat_le lo n && nat_lt n hi) || false)) (list_any-append (stretches.stretch_has n) rest gone)
    ∙ ap (λ b. (b || stretches.stretches_have gone n) || ((nat_le lo n && nat_lt n hi) || false)) no_early
    ∙ ap (λ b. (not early || b) || ((nat_le lo n && nat_lt n hi) || false)) its
    ∙ ap (λ b. (not early || told) || b) unclaimed
  where
    unclaimed : ((nat_le lo n && nat_lt n hi) || false) ≡ not (nat_lt n lo)
    unclaimed = grind (arith, nat_tests)

-- the first act that tells a number gone is one that the writer says
pub gone_same_before : (writer reader : Guid) (n datagram : ℕ) (placed : List placed_spec.PlacedValue) → received.gone_before writer reader n datagram (filter (placed_spec.is_from writer) placed) ≡ received.gone_before writer reader n datagram placed
gone_same_before writer reader n datagram placed = grind (arith, nat_tests, common_steps, find_filter, withdrawer, and_parts)
