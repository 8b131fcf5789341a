-- What the accounts of reliable pairs have taken in, as far as a recording has come. own: a verdict needs of a recording which numbers
-- the reader was told of before each of its answers, and what the answers claim; so that much is kept of each pair, and no datagram
-- (DDSI-RTPS 2.5, 8.4.2.3 "Required RTPS Reader Behavior").
use Rattle.std.specs.Prelude.{ℕ, Bool, false, ◌==◌, ◌≡◌, ◌≤◌, ◌<◌, ◌-◌, ◌^◌, List, All, filter, flat_map, length, map, slice_index_or, Option, Some, None}
use Rattle.std.specs.List.Sorted.{IsStrictlySortedBy}
use Rattle.rtps_ids.specs.declared.identity.Guid.{Guid}
use Rattle.rtps_coverage.specs.MergedRanges as merged_ranges
use Rattle.rtps_receiver.specs.Values as values
use Rattle.rtps_discovery.specs.Directory as directory
use Rattle.rtps_discovery.specs.GuidOrder as guid_order
use Rattle.rtps_discovery.specs.Matching as matching
use Rattle.rtps_discovery.specs.declared.matching.Pair.{Pair}
use Rattle.rtps_audit.specs.Account as account
use Rattle.rtps_audit.specs.FrontRanges as front_ranges
use Rattle.rtps_audit.specs.Placed as placed
use Rattle.rtps_audit.specs.declared.ask.Ask.{Ask}
use Rattle.rtps_passes.specs.declared.judged_writer.JudgedWriter.{JudgedWriter}
use Rattle.rtps_passes.specs.declared.judging.Judging.{Judging}

-- the reliable pairs of a directory, by writer and then by reader
abbrev pub pairs_in : directory.DirectoryValue → List Pair
pairs_in found = matching.reliable_pairs (matching.matches_among (directory.settled_in found.endpoints))

-- a place is the one that is found
abbrev pub is_found : Option ℕ → ℕ → Bool
is_found (Some found) place = found == place
is_found None place = false

-- a pair of this writer
abbrev pub pair_with : Guid → Guid → Pair
pair_with writer reader = record { writer = writer; reader = reader }

-- the pairs of a writer
abbrev pub pairs_of : JudgedWriter → List Pair
pairs_of judged = map (pair_with judged.writer) judged.readers.items

-- The accounts of a writer have taken in, of its readers' answers, those among some acts, and of its own acts those among others. No
-- answer stands behind the datagram of this number.
pub record HasTakenIn (from datagram : ℕ) (asked heard : List placed.PlacedValue) (judged : JudgedWriter) : Type 0 where
  pub asks : List Ask
  pub until : All (λ ask. ask.answer.datagram ≤ datagram) asks
  pub asks_are : (place : ℕ) (d : Guid) → place < length judged.readers.items → account.answers_at place asks ≡ placed.answers_among (pair_with judged.writer (slice_index_or judged.readers.items place d)) asked
  pub in_order : IsStrictlySortedBy guid_order.guid_cmp judged.readers.items
  pub stand : account.AllStand front_ranges.front_has from judged.writer (pairs_of judged) (filter (placed.is_from judged.writer) heard) asks judged.accounts

-- those of each writer have, and these are all of the pairs
pub record HaveTakenIn (from datagram : ℕ) (pairs : List Pair) (asked heard : List placed.PlacedValue) (writers : List JudgedWriter) : Type 0 where
  pub pairs_are : flat_map pairs_of writers ≡ pairs
  pub in_order : IsStrictlySortedBy guid_order.guid_cmp (map (λ judged. judged.writer) writers)
  pub each : All (HasTakenIn from datagram asked heard) writers

-- the accounts of these pairs have taken in this recording, of the numbers from `from` on
pub record IsJudgingBy (from : ℕ) (pairs : List Pair) (recording : List (List values.ActValue)) (judging : Judging) : Type 0 where
  pub positive : 1 ≤ from
  pub counted : judging.datagrams ≡ length recording
  pub taken : HaveTakenIn from judging.datagrams pairs (placed.placed_in recording) (placed.placed_in recording) judging.writers.items

-- no number of the writer has payloads that are compared
pub record HasNoQuestions (judged : JudgedWriter) : Type 0 where
  pub again : (n : ℕ) → merged_ranges.covered_of judged.accounts.again n ≡ false
  pub last : judged.accounts.last < 2 ^ 63 - 1
