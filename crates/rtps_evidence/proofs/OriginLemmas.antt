-- What the acts of one GUID say is what all acts say, of what it alone can say.
use Rattle.std.proofs.lemmas.Grind.{common_steps}
use Rattle.std.proofs.Common.{◌≡◌, ◌∙◌, ◌+◌, ◌-◌, ◌≤◌, ◌==◌, ◌&&◌, ℕ, Bool, true, max, map, filter, List, [], ◌∷◌, Option, Some, None, refl, ap, arith, not, rules}
use Rattle.std.specs.Prelude.{if◌then◌else◌, is_some, unwrap_or}
use Rattle.std.specs.List.{cons_option, filter_map}
use Rattle.std.specs.Option.{option_map}
use Rattle.std.proofs.lemmas.Bool.Decides.{nat_tests}
use Rattle.rtps_ids.specs.declared.identity.Guid.{Guid}
use Rattle.rtps_wire.specs.Values as wire_values
use Rattle.rtps_receiver.specs.Speech as receiver_speech
use Rattle.rtps_receiver.specs.Values as receiver_values
use Rattle.rtps_audit.specs.Delivery as delivery
use Rattle.rtps_audit.specs.Placed as placed_spec
use Rattle.rtps_audit.specs.Speech as audit_speech
use Rattle.rtps_audit.proofs.Offered.{last_is_last, speaker_is_origin}
use Rattle.rtps_evidence.specs.Locations as locations
use Rattle.rtps_evidence.specs.Amount as amount
use Rattle.rtps_evidence.specs.declared.amount.Amounts.{Amounts}
use Rattle.rtps_coverage.proofs.Offered.{count_same}
use Rattle.rtps_evidence.proofs.FindLemmas.{any_filter, find_filter}

-- ---- who says it

some_if : {X : Type 0} (b : Bool) (o : Option X) → is_some (if b then o else None) ≡ true → b ≡ true
some_if b o h = grind (arith, nat_tests)

positive_if : (b : Bool) (o : Option ℕ) (n : ℕ) → unwrap_or (if b then o else None) 0 ≡ n → 1 ≤ n → b ≡ true
positive_if b o n h h2 = grind (arith, nat_tests)

first_of : (a b : Bool) → (a && b) ≡ true → a ≡ true
first_of a b h = grind (arith, nat_tests)

tells_from : (writer reader : Guid) (n : ℕ) (placed : placed_spec.PlacedValue) → locations.tells writer reader n placed ≡ true → placed_spec.is_from writer placed ≡ true
tells_from writer reader n placed e = speaker_is_origin writer placed (first_of _ _ (some_if (receiver_speech.is_spoken_by placed.act writer && receiver_speech.is_heard_by placed.act reader) (audit_speech.word_of placed.act.body n) e))

some_word : (word : Option delivery.Word) → is_some (locations.payload_in word) ≡ true → is_some word ≡ true
some_word word h = grind (arith, nat_tests)

sends_from : (writer reader : Guid) (n : ℕ) (placed : placed_spec.PlacedValue) → locations.sends writer reader n placed ≡ true → placed_spec.is_from writer placed ≡ true
sends_from writer reader n placed e = tells_from writer reader n placed (some_word (audit_speech.word_for writer reader placed.act n) e)

differs_some : (payload : wire_values.PayloadValue) (other : Option wire_values.PayloadValue) → locations.differs payload other ≡ true → is_some other ≡ true
differs_some payload other h = grind (arith, nat_tests)

differs_from : (writer reader : Guid) (n : ℕ) (payload : wire_values.PayloadValue) (placed : placed_spec.PlacedValue) → locations.differs payload (locations.payload_for writer reader n placed) ≡ true → placed_spec.is_from writer placed ≡ true
differs_from writer reader n payload placed e = sends_from writer reader n placed (differs_some payload (locations.payload_for writer reader n placed) e)

number_from : (writer : Guid) (n : ℕ) (placed : placed_spec.PlacedValue) → 1 ≤ n → locations.number_said writer placed ≡ n → placed_spec.is_from writer placed ≡ true
number_from writer n placed low e = speaker_is_origin writer placed (positive_if (receiver_speech.is_spoken_by placed.act writer) (audit_speech.announced_of_body placed.act.body) n e low)

-- ---- so the first is the same

equal_numbers : (a b : ℕ) → (a == b) ≡ true → a ≡ b
equal_numbers a b e = grind (arith, nat_tests)

pub teller_same : (writer reader : Guid) (n : ℕ) (acts : List placed_spec.PlacedValue) → locations.teller_of writer reader n (filter (placed_spec.is_from writer) acts) ≡ locations.teller_of writer reader n acts
teller_same writer reader n acts = ap (option_map locations.teller_at) (find_filter (locations.tells writer reader n) (placed_spec.is_from writer) (tells_from writer reader n) acts)

pub announcement_same : (from : ℕ) (writer : Guid) (number : ℕ) (acts : List placed_spec.PlacedValue) → locations.announcement_of from writer number (filter (placed_spec.is_from writer) acts) ≡ locations.announcement_of from writer number acts
announcement_same from writer number acts = grind (arith, nat_tests, common_steps, find_filter, number_from, equal_numbers)

pub first_same : (writer reader : Guid) (n : ℕ) (acts : List placed_spec.PlacedValue) → locations.first_sent writer reader n (filter (placed_spec.is_from writer) acts) ≡ locations.first_sent writer reader n acts
first_same writer reader n acts = ap (option_map (locations.sent_at writer reader n)) (find_filter (locations.sends writer reader n) (placed_spec.is_from writer) (sends_from writer reader n) acts)

pub other_same : (writer reader : Guid) (n : ℕ) (acts : List placed_spec.PlacedValue) → locations.other_sent writer reader n (filter (placed_spec.is_from writer) acts) ≡ locations.other_sent writer reader n acts
other_same writer reader n acts = grind (arith, nat_tests, common_steps, find_filter, sends_from, differs_from)

pub sent_same : (writer reader : Guid) (n : ℕ) (acts : List placed_spec.PlacedValue) → amount.is_sent writer reader (filter (placed_spec.is_from writer) acts) n ≡ amount.is_sent writer reader acts n
sent_same writer reader n acts = any_filter (locations.sends writer reader n) (placed_spec.is_from writer) (sends_from writer reader n) acts

pub amounts_same : (from last : ℕ) (writer reader : Guid) (acts : List placed_spec.PlacedValue) (amounts : Amounts) → amount.AreAmounts from last writer reader (filter (placed_spec.is_from writer) acts) amounts → amount.AreAmounts from last writer reader acts amounts
amounts_same from last writer reader acts amounts are =
    let told = λ (n : ℕ). any_filter (locations.tells writer reader n) (placed_spec.is_from writer) (tells_from writer reader n) acts in
    let sent = λ (n : ℕ). sent_same writer reader n acts in
    record {
      payloads = are.payloads ∙ count_same (amount.is_sent writer reader (filter (placed_spec.is_from writer) acts)) (amount.is_sent writer reader acts) from (last + 1) (λ n a b. sent n);
      gone = are.gone ∙ count_same (λ n. amount.is_told writer reader (filter (placed_spec.is_from writer) acts) n && not (amount.is_sent writer reader (filter (placed_spec.is_from writer) acts) n)) (λ n. amount.is_told writer reader acts n && not (amount.is_sent writer reader acts n)) from (last + 1) (λ n a b. rw (told n, sent n) refl);
      untold = are.untold ∙ count_same (λ n. not (amount.is_told writer reader (filter (placed_spec.is_from writer) acts) n)) (λ n. not (amount.is_told writer reader acts n)) from (last + 1) (λ n a b. ap not (told n));
    }

-- ---- the last announced number

greatest_made : {X : Type 0} (h : X → Option ℕ) (xs : List X) → delivery.greatest (map (λ x. unwrap_or (h x) 0) xs) ≡ delivery.greatest (filter_map h xs)
greatest_made h [] = refl
greatest_made h (x ∷ xs) = by (h x) (greatest_made h xs)
  where
    by : (o : Option ℕ) → delivery.greatest (map (λ x. unwrap_or (h x) 0) xs) ≡ delivery.greatest (filter_map h xs) → max (unwrap_or o 0) (delivery.greatest (map (λ x. unwrap_or (h x) 0) xs)) ≡ delivery.greatest (cons_option o (filter_map h xs))
    by None e = omega arith
    by (Some n) e = ap (max n) e

pub last_same : (from : ℕ) (writer reader : Guid) (recording : List (List receiver_values.ActValue)) (greatest_one last : ℕ) → greatest_one ≡ delivery.greatest (map (locations.number_said writer) (filter (placed_spec.is_from writer) (placed_spec.placed_in recording))) → last ≡ max greatest_one (from - 1) → last ≡ delivery.last_announced_from from (audit_speech.speech_by writer reader recording)
last_same from writer reader recording greatest_one last a b = search (rules, greatest_made, last_is_last)
