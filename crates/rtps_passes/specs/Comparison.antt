-- What is kept of the payloads that are compared. own: a number has one payload, so payloads have to be compared only of a number of
-- which one came again; of such a number each payload is kept once for those that it is sent to (DDSI-RTPS 2.5, 8.3.8.2 "Data" and
-- 8.3.8.3 "DataFrag").
use Rattle.std.specs.Prelude.{ℕ, Bool, true, ◌==◌, ◌≡◌, ◌<◌, if◌then◌else◌, List, [], Contains, filter, length, slice_get, slice_index_or, Option, Some, None}
use Rattle.rtps_coverage.specs.MergedRanges as merged_ranges
use Rattle.rtps_wire.specs.Values as wire_values
use Rattle.rtps_receiver.specs.Speech as receiver_speech
use Rattle.rtps_receiver.specs.Values as receiver_values
use Rattle.rtps_discovery.specs.declared.matching.Pair.{Pair}
use Rattle.rtps_audit.specs.Delivery as delivery
use Rattle.rtps_audit.specs.PayloadConflict as payload_conflict
use Rattle.rtps_audit.specs.Placed as placed_spec
use Rattle.rtps_audit.specs.Speech as speech
use Rattle.rtps_audit.specs.declared.payload_conflict.AddressedPayload.{AddressedPayload}
use Rattle.rtps_passes.specs.Judging as judging
use Rattle.rtps_passes.specs.declared.comparison.Comparison.{Comparison}
use Rattle.rtps_passes.specs.declared.kept_payload.KeptPayload.{KeptPayload}
use Rattle.rtps_passes.specs.declared.kept_payloads.KeptPayloads.{KeptPayloads}
use Rattle.rtps_passes.specs.declared.judged_writer.JudgedWriter.{JudgedWriter}

-- what is kept is the payload of an entry, and whom that is for
pub record IsEntryOf (entry : AddressedPayload) (kept : KeptPayload) : Type 0 where
  pub number : kept.number ≡ entry.number
  pub dest : kept.dest ≡ entry.dest.now
  pub reader : kept.reader ≡ entry.reader
  pub payload : wire_values.payload_value kept.payload ≡ wire_values.payload_value entry.payload.now

-- it is the payload that an act tells, and whom it is for
pub record IsToldBy (act : receiver_values.ActValue) (kept : KeptPayload) : Type 0 where
  pub dest : act.dest ≡ kept.dest
  pub reader : receiver_speech.reader_named act.body ≡ Some kept.reader
  pub says : (n : ℕ) → speech.word_of act.body n ≡ (if n == kept.number then Some (delivery.Word.Told (wire_values.payload_value kept.payload)) else None)

-- kept are the payloads that these acts tell for numbers that are wanted
pub record AreKept (wanted : ℕ → Bool) (placed : List placed_spec.PlacedValue) (kept : List KeptPayload) : Type 0 where
  pub told : (one : KeptPayload) → Contains kept one → (wanted one.number ≡ true) × ((at : placed_spec.PlacedValue) × Contains placed at × IsToldBy at.act one)
  pub all : (at : placed_spec.PlacedValue) (n : ℕ) (x : wire_values.PayloadValue) → Contains placed at → wanted n ≡ true → speech.word_of at.act.body n ≡ Some (delivery.Word.Told x) → (one : KeptPayload) × Contains kept one × IsToldBy at.act one

-- the numbers of a writer that are in question
abbrev pub is_wanted : JudgedWriter → ℕ → Bool
is_wanted judged n = payload_conflict.is_in_question judged.accounts.from (merged_ranges.covered_of judged.accounts.again) n

-- what is kept, where something is
abbrev pub payloads_or_none : Option KeptPayloads → List KeptPayload
payloads_or_none (Some kept) = kept.payloads.items
payloads_or_none None = []

-- what is kept of the writer at a place
abbrev pub kept_at : List KeptPayloads → ℕ → List KeptPayload
kept_at kept place = payloads_or_none (slice_get kept place)

-- of each writer are kept the payloads that it tells among these acts
abbrev pub HaveKept : List JudgedWriter → List placed_spec.PlacedValue → List KeptPayloads → Type 0
HaveKept writers placed kept =
    (place : ℕ) (d : JudgedWriter) → place < length writers → AreKept (is_wanted (slice_index_or writers place d)) (filter (placed_spec.is_from (slice_index_or writers place d).writer) placed) (kept_at kept place)

-- the comparison has taken in what comes first of this recording, or all of it, by the accounts that have taken in all of it
pub record IsComparisonBy (from : ℕ) (pairs : List Pair) (recording compared : List (List receiver_values.ActValue)) (comparison : Comparison) : Type 0 where
  pub judging : judging.IsJudgingBy from pairs recording comparison.judging.now
  pub kept : HaveKept comparison.judging.now.writers.items (placed_spec.placed_in compared) comparison.kept.items
