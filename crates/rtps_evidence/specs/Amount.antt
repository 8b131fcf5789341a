-- How many numbers have a payload, are gone, or have no word. own: numbers go up to 2^63 - 1, so they are counted by stretches
-- of them and never one by one.
use Rattle.std.specs.Prelude.{ℕ, Bool, ◌+◌, ◌≡◌, ◌&&◌, ◌||◌, not, List}
use Rattle.std.specs.List.{list_any}
use Rattle.rtps_ids.specs.declared.identity.Guid.{Guid}
use Rattle.rtps_audit.specs.Placed as placed
use Rattle.rtps_coverage.specs.Counts as counts
use Rattle.rtps_coverage.specs.Stretches as stretches
use Rattle.rtps_evidence.specs.Locations as locations
use Rattle.rtps_evidence.specs.declared.amount.Amounts.{Amounts}
use Rattle.rtps_evidence.specs.declared.amount.HeardNumbers.{HeardNumbers}

-- whether the reader hears a word for n from the writer, by some act
abbrev pub is_told : Guid → Guid → List placed.PlacedValue → ℕ → Bool
is_told writer reader acts n = list_any (locations.tells writer reader n) acts

-- whether it hears a payload for n
abbrev pub is_sent : Guid → Guid → List placed.PlacedValue → ℕ → Bool
is_sent writer reader acts n = list_any (locations.sends writer reader n) acts

-- n has a payload by what is heard
abbrev pub has_sent : HeardNumbers → ℕ → Bool
has_sent heard n = stretches.stretches_have heard.early.items n || stretches.stretches_have heard.late.items n

-- n has a word
abbrev pub has_told : HeardNumbers → ℕ → Bool
has_told heard n = (has_sent heard n || stretches.stretches_have heard.gone.items n) || stretches.stretches_have heard.gone_late.items n

-- they are the numbers that have a word, those that have a payload, and those that have one, or are told gone, before they are claimed
pub record AreNumbers (has_word has_payload is_early is_gone : ℕ → Bool) (heard : HeardNumbers) : Type 0 where
  pub told : (n : ℕ) → has_told heard n ≡ has_word n
  pub sent : (n : ℕ) → has_sent heard n ≡ has_payload n
  pub early : (n : ℕ) → stretches.stretches_have heard.early.items n ≡ is_early n
  pub gone : (n : ℕ) → stretches.stretches_have heard.gone.items n ≡ is_gone n

-- Of the numbers from `from` to the last one: those with a payload, those told gone that have no payload, and those
-- without a word.
pub record AreAmounts (from last : ℕ) (writer reader : Guid) (acts : List placed.PlacedValue) (amounts : Amounts) : Type 0 where
  pub payloads : amounts.payloads ≡ counts.count_in (is_sent writer reader acts) from (last + 1)
  pub gone : amounts.gone ≡ counts.count_in (λ n. is_told writer reader acts n && not (is_sent writer reader acts n)) from (last + 1)
  pub untold : amounts.untold ≡ counts.count_in (λ n. not (is_told writer reader acts n)) from (last + 1)
