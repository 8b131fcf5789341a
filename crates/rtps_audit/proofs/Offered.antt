-- Lemmas about the definitions of this crate, for the crates above it: who an act is from, and that what stands among the
-- acts of a recording is what its speech has.
use Rattle.std.proofs.Common.{◌≡◌, ℕ, ◌+◌, ◌-◌, ◌<◌, ◌∙◌, true, max, filter, List, Some, sym, subst, arith, ◌≤◌, zero, suc}
use Rattle.std.specs.Prelude.{Contains}
use Rattle.rtps_ids.specs.declared.identity.Guid.{Guid}
use Rattle.rtps_receiver.specs.Speech as receiver_speech
use Rattle.rtps_receiver.specs.Values as values
use Rattle.rtps_audit.specs.Delivery as delivery
use Rattle.rtps_audit.specs.PlainVerdict as plain_verdict
use Rattle.rtps_audit.specs.RunVerdict as run_verdict
use Rattle.rtps_audit.proofs.Sound.{founded_from_run, held_from_claim, spoken_from_held}
use Rattle.rtps_audit.proofs.Verdicts.{ends_without}
use Rattle.rtps_audit.proofs.DeliveryRuns.{Ends-took, took}
use Rattle.std.proofs.lemmas.List.Elements.{Contains-append_left, Contains-push}
use Rattle.rtps_audit.specs.Answered as answered
use Rattle.rtps_audit.specs.Placed as placed_spec
use Rattle.rtps_audit.specs.Speech as speech
use Rattle.rtps_audit.proofs.IndexSpeech.{all_have, gives_from, heard_from, its_have, last_from, spoken_is_from}
use Rattle.rtps_audit.proofs.PlacedActs.{stands_there, stands_where}
pub use Rattle.rtps_audit.proofs.DeliveryRuns.{Follows-append, place_within}
pub use Rattle.rtps_audit.proofs.Sound.{reached-sound}
pub use Rattle.rtps_audit.proofs.Verdicts.{runs_exist_where_founded}
-- which numbers have a word; what is taken in of a datagram more
pub use Rattle.rtps_audit.proofs.IntakeLemmas.{counts_more, intake_on}
-- lists: what stands first or behind, what stands among what a function gives, what is below the greatest; tests of equal parts
pub use Rattle.rtps_audit.proofs.PlacedActs.{contains_cases, contains_head, contains_none, contains_tail, kept_if_passed, kept_is_there, made_from, makes, placed_push, together_push}
pub use Rattle.rtps_audit.proofs.PlacedLemmas.{all_between, all_with_first, answer_added, both, bytes_eq-sym, is_eq-guid_cmp, no_pair, placed_more}
-- entries of a map by GUID; the verdict by all runs
pub use Rattle.rtps_audit.proofs.GroupLemmas.{entry_written, equal_of, found_alike}
pub use Rattle.rtps_audit.proofs.ExactVerdicts.{exact_report, exact_verdict}
pub use Rattle.rtps_audit.proofs.Greatest.{below_greatest, greatest-append, greatest_below}
pub use Rattle.rtps_audit.proofs.IndexSpeech.{if_some, contains_mapped, get_mapped, mapped_contains, mapped_get}
pub use Rattle.rtps_audit.proofs.AccountsLemmas.{all_passed}
pub use Rattle.rtps_audit.proofs.AskLemmas.{later_place, other_place, pushed, same_place}
pub use Rattle.rtps_audit.proofs.PayloadHearing.{and_second, from_speaks, sent_moved}
pub use Rattle.rtps_audit.proofs.WordLemmas.{payload_number}

-- ---- who an act is from

pub speaker_is_origin : (writer : Guid) (placed : placed_spec.PlacedValue) → receiver_speech.is_spoken_by placed.act writer ≡ true → placed_spec.is_from writer placed ≡ true
speaker_is_origin writer placed e = spoken_is_from writer placed e

-- ---- what a speech has

-- the last announced number is that of the writer's acts
pub last_is_last : (from : ℕ) (writer reader : Guid) (recording : List (List values.ActValue)) → max (from - 1) (answered.last_among writer (filter (placed_spec.is_from writer) (placed_spec.placed_in recording))) ≡ delivery.last_announced_from from (speech.speech_by writer reader recording)
last_is_last from writer reader recording = last_from from writer reader recording (filter (placed_spec.is_from writer) (placed_spec.placed_in recording)) (its_have writer recording)

-- an act that has a word gives it, and the other way round
pub word_is_given : (from : ℕ) (writer reader : Guid) (recording : List (List values.ActValue)) (n : ℕ) (word : delivery.Word) (placed : placed_spec.PlacedValue) → Contains (placed_spec.placed_in recording) placed → speech.word_for writer reader placed.act n ≡ Some word → delivery.IsAsked from n
    → (i : ℕ) × (k : ℕ) × delivery.Gives from (speech.speech_by writer reader recording) i k n word × (placed.datagram ≡ i + 1)
word_is_given from writer reader recording n word placed among says asked =
    let heard : answered.IsHeard writer reader (placed_spec.placed_in recording) n word = record { at = placed; among = among; says = says } in
    gives_from writer reader recording (placed_spec.placed_in recording) (all_have writer recording) n word heard asked

pub given_is_word : (from : ℕ) (writer reader : Guid) (recording : List (List values.ActValue)) (i k n : ℕ) (word : delivery.Word) → delivery.Gives from (speech.speech_by writer reader recording) i k n word
    → (placed : placed_spec.PlacedValue) × Contains (placed_spec.placed_in recording) placed × (speech.word_for writer reader placed.act n ≡ Some word) × (placed.datagram ≡ i + 1)
given_is_word from writer reader recording i k n word gives =
    let heard = heard_from writer reader recording (placed_spec.placed_in recording) (all_have writer recording) i k n word gives in
    (heard.0.at, heard.0.among, heard.0.says, heard.1)

-- an answer claims each number below its base that is asked for, and the other way round
pub base_is_claim : (from : ℕ) (writer reader : Guid) (recording : List (List values.ActValue)) (n base : ℕ) (placed : placed_spec.PlacedValue) → Contains (placed_spec.placed_in recording) placed → speech.base_for writer reader placed.act ≡ Some base → n < base → delivery.IsAsked from n
    → (j : ℕ) × delivery.Claims from (speech.speech_by writer reader recording) j n × (placed.datagram ≡ j + 1)
base_is_claim from writer reader recording n base placed among answers below asked =
    let stands = stands_where 0 recording placed among in
    let claims : delivery.Claims from (speech.speech_by writer reader recording) stands.place n = record {
      datagram = speech.said_by writer reader stands.datagram;
      base = base;
      stands = get_mapped (speech.said_by writer reader) recording stands.place stands.datagram stands.stands;
      answers = makes (speech.base_for writer reader) stands.datagram placed.act base stands.among answers;
      asked = asked;
      below = below;
    } in
    (stands.place, claims, stands.at ∙ omega arith)

pub claim_is_base : (from : ℕ) (writer reader : Guid) (recording : List (List values.ActValue)) (j n : ℕ) → delivery.Claims from (speech.speech_by writer reader recording) j n
    → (placed : placed_spec.PlacedValue) × (base : ℕ) × Contains (placed_spec.placed_in recording) placed × (speech.base_for writer reader placed.act ≡ Some base) × (n < base) × (placed.datagram ≡ j + 1)
claim_is_base from writer reader recording j n claims =
    let datagram = mapped_get (speech.said_by writer reader) recording j claims.datagram claims.stands in
    let among = subst (λ (d : delivery.Datagram). Contains d.bases claims.base) (sym datagram.2) claims.answers in
    let act = made_from (speech.base_for writer reader) datagram.0 claims.base among in
    let there = stands_there 0 j recording datagram.0 act.0 datagram.1 act.1 in
    (record { datagram = 0 + j + 1; act = act.0 }, claims.base, there, act.2, claims.below, omega arith)

-- a number that the writer announces is at most the last one
pub announced_is_reached : (from : ℕ) (writer reader : Guid) (recording : List (List values.ActValue)) (n : ℕ) (placed : placed_spec.PlacedValue) → Contains (placed_spec.placed_in recording) placed → speech.announced_for writer placed.act ≡ Some n
    → n ≤ delivery.last_announced_from from (speech.speech_by writer reader recording)
announced_is_reached from writer reader recording n placed among announces =
    let spoken = spoken_is_from writer placed (if_some _ (speech.announced_of_body placed.act.body) n announces).0 in
    let kept = kept_if_passed (placed_spec.is_from writer) (placed_spec.placed_in recording) placed among spoken in
    let number = makes (λ (at : placed_spec.PlacedValue). speech.announced_for writer at.act) (filter (placed_spec.is_from writer) (placed_spec.placed_in recording)) placed n kept announces in
    let below : n ≤ answered.last_among writer (filter (placed_spec.is_from writer) (placed_spec.placed_in recording)) = at_most n _ number in
    let is = last_from from writer reader recording (filter (placed_spec.is_from writer) (placed_spec.placed_in recording)) (its_have writer recording) in
    omega arith
  where
    at_most : (n : ℕ) (ns : List ℕ) → Contains ns n → n ≤ delivery.greatest ns
    at_most zero ns among = omega arith
    at_most (suc n) ns among = let lt = greatest_below n (suc n) ns among (omega arith) in omega arith

-- ---- what runs end with

-- where a run exists, each number that is claimed is told before
pub run_is_founded : (from : ℕ) (speech : delivery.Speech) → delivery.HasRun from speech → plain_verdict.IsFounded from speech
run_is_founded from speech run = founded_from_run speech run.0 run.1

-- some run ends without a word for a number that no answer claims
pub unclaimed_is_missed : (from : ℕ) (speech : delivery.Speech) (n : ℕ) → delivery.HasRun from speech → plain_verdict.IsUnclaimed from speech n → run_verdict.EndsWithout from speech n
unclaimed_is_missed from speech n run unclaimed = ends_without speech (run_is_founded from speech run) n unclaimed

-- some run ends with both of two words that are spoken
pub two_are_held : (from : ℕ) (speech : delivery.Speech) (n : ℕ) (one other : delivery.Word) → delivery.HasRun from speech → plain_verdict.IsSpoken from speech n one → plain_verdict.IsSpoken from speech n other
    → (end : delivery.DeliveryState) × delivery.Ends from speech end × Contains end.held (n, one) × Contains end.held (n, other)
two_are_held from speech n one other (end, ends) first second =
    let once : delivery.DeliveryState = took end n one in
    let twice : delivery.DeliveryState = took once n other in (
      twice,
      Ends-took speech once n other (Ends-took speech end n one ends first) second,
      Contains-append_left once.held _ _ (Contains-push end.held (n, one)),
      Contains-push once.held (n, other),
    )

-- each run ends with a word for each number that is claimed, and with no word that is not spoken
pub claimed_is_held : (from : ℕ) (speech : delivery.Speech) (end : delivery.DeliveryState) (j n : ℕ) → delivery.Ends from speech end → delivery.Claims from speech j n → delivery.Holds end n
claimed_is_held from speech end j n ends claims = held_from_claim speech end j n ends claims

pub held_is_spoken : (from : ℕ) (speech : delivery.Speech) (end : delivery.DeliveryState) (n : ℕ) (word : delivery.Word) → delivery.Ends from speech end → Contains end.held (n, word) → plain_verdict.IsSpoken from speech n word
held_is_spoken from speech end n word ends held = spoken_from_held speech end n word ends held
