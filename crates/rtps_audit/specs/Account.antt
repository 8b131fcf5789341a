-- What a reader has of a writer, as far as a recording has come, and what is judged by it. own: a verdict needs of a recording
-- which numbers the reader was told of before each of its answers, and what the answers claim; so that much is kept, and no
-- more (DDSI-RTPS 2.5, 8.4.2.3 "Required RTPS Reader Behavior").
use Rattle.std.specs.Prelude.{ℕ, Bool, true, ◌==◌, ◌&&◌, ◌≡◌, ◌≤◌, ◌<◌, ◌-◌, ◌^◌, ◌↔◌, if◌then◌else◌, is_some, max, unwrap_or, List, filter, length, map, slice_index_or, Contains, Option, Some, None}
use Rattle.std.specs.List.{All, filter_map}
use Rattle.rtps_ids.specs.declared.identity.Guid.{Guid}
use Rattle.rtps_coverage.specs.Coverage as coverage
use Rattle.rtps_coverage.specs.MergedRanges as merged_ranges
use Rattle.rtps_wire.specs.Values as wire_values
use Rattle.rtps_receiver.specs.Speech as receiver_speech
use Rattle.rtps_receiver.specs.Values as receiver_values
use Rattle.rtps_discovery.specs.declared.matching.Pair.{Pair}
use Rattle.rtps_audit.specs.Answered as answered
use Rattle.rtps_audit.specs.Delivery as delivery
use Rattle.rtps_audit.specs.PayloadConflict as payload_conflict
use Rattle.rtps_audit.specs.Placed as placed
use Rattle.rtps_audit.specs.Report as report
use Rattle.rtps_audit.specs.Speech as speech
use Rattle.rtps_audit.specs.declared.account.Account.{Account}
use Rattle.rtps_audit.specs.declared.accounts.Accounts.{Accounts}
use Rattle.rtps_audit.specs.declared.answer.Answer.{Answer}
use Rattle.rtps_audit.specs.declared.ask.Ask.{Ask}
use Rattle.rtps_audit.specs.declared.payload_conflict.PayloadConflicts.{PayloadConflicts}
use Rattle.rtps_audit.specs.declared.placed.Placed.{Placed}
use Rattle.rtps_audit.specs.declared.report.Row.{Row}
use Rattle.rtps_audit.specs.declared.verdict.Claims.{Claims}

-- ---- one account

-- of the numbers that are asked for, the set has those that the reader hears of from the writer by these acts
abbrev pub HasHeard : ℕ → (ℕ → Bool) → Guid → Guid → List placed.PlacedValue → Type 0
HasHeard from set writer reader placed = (n : ℕ) → delivery.IsAsked from n → n < 2 ^ 63 - 1 → (set n ≡ true) ↔ ((word : delivery.Word) × answered.IsHeard writer reader placed n word)

-- and it has those that are not asked for
pub record HasHeardOrUnasked (from : ℕ) (set : ℕ → Bool) (writer reader : Guid) (placed : List placed.PlacedValue) : Type 0 where
  pub passed : (n : ℕ) → 1 ≤ n → n < from → n < 2 ^ 63 - 1 → set n ≡ true
  pub heard : HasHeard from set writer reader placed

-- the claims are those of these answers
pub record AreClaimsOf (from : ℕ) (writer reader : Guid) (placed : List placed.PlacedValue) (answers : List Answer) (claims : Claims) : Type 0 where
  pub asking : claims.from ≡ from
  pub untold : answered.IsUntoldAmong from writer reader placed answers claims.untold
  pub base : claims.base ≡ max from (answered.base_among answers)

-- The account stands for these acts and answers, of the numbers from `from` on: those of a recording as far as it has come. It
-- has the numbers that the reader hears of, the first claim that nothing told, and the greatest base.
pub record Stands {C : Type 0} (covered : C → ℕ → Bool) (from : ℕ) (writer : Guid) (placed : List placed.PlacedValue) (answers : List Answer) (account : Account C) : Type 0 where
  pub told : HasHeardOrUnasked from (covered account.told) writer account.pair.reader placed
  pub claims : AreClaimsOf from writer account.pair.reader placed answers account.claims

-- the reader hears an act more
pub record Hears {C : Type 0} (covered : C → ℕ → Bool) (act : receiver_values.ActValue) (old new : Account C) : Type 0 where
  pub pair : new.pair ≡ old.pair
  pub claims : new.claims ≡ old.claims
  pub told : coverage.TellsMore (covered old.told) (covered new.told) (λ n. receiver_speech.is_heard_by act old.pair.reader && is_some (speech.word_of act.body n))

-- an act tells the reader the payload of a number that it was told of before
pub record ComesAgain {C : Type 0} (covered : C → ℕ → Bool) (act : receiver_values.ActValue) (account : Account C) (n : ℕ) : Type 0 where
  pub payload : wire_values.PayloadValue
  pub says : speech.word_of act.body n ≡ Some (delivery.Word.Told payload)
  pub heard : receiver_speech.is_heard_by act account.pair.reader ≡ true
  pub before : covered account.told n ≡ true

-- ---- the accounts of a writer

-- the answer of an ask, if it is of the pair at this place
abbrev pub answer_if_at : ℕ → Ask → Option Answer
answer_if_at place ask = if ask.place == place then Some ask.answer else None

-- the answers among these asks that are of the pair at this place
abbrev pub answers_at : ℕ → List Ask → List Answer
answers_at place asks = filter_map (answer_if_at place) asks

-- each account hears an act more
pub record AllHear {C : Type 0} (covered : C → ℕ → Bool) (act : receiver_values.ActValue) (old new : List (Account C)) : Type 0 where
  pub counted : length new ≡ length old
  pub each : (place : ℕ) (d : Account C) → place < length old → Hears covered act (slice_index_or old place d) (slice_index_or new place d)

-- an act of the writer more is taken in
pub record TakesIn {C : Type 0} (covered : C → ℕ → Bool) (act : receiver_values.ActValue) (old new : Accounts C) : Type 0 where
  pub writer : new.writer ≡ old.writer
  pub from : new.from ≡ old.from
  pub heard : AllHear covered act old.accounts.items new.accounts.items
  pub kept : (n : ℕ) → 1 ≤ n → n < 2 ^ 63 - 1 → merged_ranges.covered_of old.again n ≡ true → merged_ranges.covered_of new.again n ≡ true
  pub again : (place : ℕ) (d : Account C) (n : ℕ) → place < length old.accounts.items → 1 ≤ n → n < 2 ^ 63 - 1 → ComesAgain covered act (slice_index_or old.accounts.items place d) n → merged_ranges.covered_of new.again n ≡ true
  pub last : new.last ≡ max old.last (unwrap_or (speech.announced_for old.writer act) 0)

-- The accounts stand for these acts of the writer and these asks, each for the answers that are of its pair. The numbers of
-- which some reader hears two payloads are among those that came again, and the last announced number is known.
pub record AllStand {C : Type 0} (covered : C → ℕ → Bool) (from : ℕ) (writer : Guid) (pairs : List Pair) (placed : List placed.PlacedValue) (asks : List Ask) (accounts : Accounts C) : Type 0 where
  pub writer_is : accounts.writer ≡ writer
  pub from_is : accounts.from ≡ from
  pub pairs_are : map (λ account. account.pair) accounts.accounts.items ≡ pairs
  pub counted : All (λ ask. 1 ≤ ask.answer.datagram) asks
  pub each : (place : ℕ) (d : Account C) → place < length accounts.accounts.items → Stands covered from writer placed (answers_at place asks) (slice_index_or accounts.accounts.items place d)
  pub again : (place : ℕ) (d : Account C) (n : ℕ) → place < length accounts.accounts.items → n < 2 ^ 63 - 1 → answered.HearsTwo from writer (slice_index_or accounts.accounts.items place d).pair.reader placed n → merged_ranges.covered_of accounts.again n ≡ true
  pub last : accounts.last ≡ answered.last_among writer placed

-- ---- what is taken in of a recording

-- two lists have the same answers, in whatever order and however often
abbrev pub HaveSame : List Answer → List Answer → Type 0
HaveSame one other = (answer : Answer) → Contains one answer ↔ Contains other answer

-- the asks are the answers in the recording of each of these pairs
pub record AreAsksOf (recording : List (List receiver_values.ActValue)) (pairs : List Pair) (asks : List Ask) : Type 0 where
  pub counted : All (λ ask. 1 ≤ ask.answer.datagram) asks
  pub same : (place : ℕ) (d : Pair) → place < length pairs → HaveSame (answers_at place asks) (placed.answers_among (slice_index_or pairs place d) (placed.placed_in recording))

-- an act of the writer in this datagram or behind it
pub record IsSince (writer : Guid) (datagram : ℕ) (at : Placed) : Type 0 where
  pub from : placed.is_from writer (placed.placed_value at) ≡ true
  pub since : datagram ≤ at.datagram

-- these acts and asks are what the writer and the readers of its pairs say in the recording
pub record AreSaid (writer : Guid) (recording : List (List receiver_values.ActValue)) (pairs : List Pair) (acts : List placed.PlacedValue) (asks : List Ask) : Type 0 where
  pub of_writer : All (λ pair. pair.writer ≡ writer) pairs
  pub acts_are : acts ≡ filter (placed.is_from writer) (placed.placed_in recording)
  pub asks_are : AreAsksOf recording pairs asks

-- the rows are those of the pairs, each with the verdict on it
pub record AreRowsOf (from : ℕ) (recording : List (List receiver_values.ActValue)) (pairs : List Pair) (rows : List Row) : Type 0 where
  pub pairs_are : map (λ row. row.pair) rows ≡ pairs
  pub judged : All (report.IsJudgedFrom from recording) rows

-- All that the verdict on a pair is by is known: the conflicts among the payloads that are in question, which are all that the
-- reader hears two of, the last number announced, and the claims of all its answers.
pub record IsAllKnown (from : ℕ) (recording : List (List receiver_values.ActValue)) (pair : Pair) (conflicts : PayloadConflicts) (last : ℕ) (noted : Claims) : Type 0 where
  pub wanted : ℕ → Bool
  pub asked : (n : ℕ) → wanted n ≡ true → delivery.IsAsked from n
  pub two : (n : ℕ) → answered.HearsTwo from pair.writer pair.reader (filter (placed.is_from pair.writer) (placed.placed_in recording)) n → wanted n ≡ true
  pub payloads : payload_conflict.AreConflictsOf wanted conflicts.payloads.items (filter (placed.is_from pair.writer) (placed.placed_in recording))
  pub announced : last ≡ answered.last_among pair.writer (filter (placed.is_from pair.writer) (placed.placed_in recording))
  pub claims : AreClaimsOf from pair.writer pair.reader (filter (placed.is_from pair.writer) (placed.placed_in recording)) (placed.answers_among pair (placed.placed_in recording)) noted
