-- The verdict on a recording by all its runs. own: the standard names no verdict; the runs are those of
-- specs/Delivery.
use Rattle.std.specs.Prelude.{ℕ, ◌<◌, ◌≤◌, ◌+◌, ◌≡◌, ◌≢◌, ℤ, pos, negsuc, length, Contains}
use Rattle.rtps_wire.specs.Values as values
use Rattle.rtps_audit.specs.Delivery as delivery
use Rattle.rtps_audit.specs.declared.verdict.Verdict.{Verdict}

-- n is the least number that has P
pub record IsLeast (P : ℕ → Type 0) (n : ℕ) : Type 0 where
  pub holds : P n
  pub least : (m : ℕ) → P m → n ≤ m

-- the signed number is not below 0, and has P
abbrev pub OnNatural : ℤ → (ℕ → Type 0) → Type 0
OnNatural (pos n) P = P n
OnNatural (negsuc n) P = ⊥

-- no list of allowed events sends the datagram at place j
abbrev pub IsUnsendable : ℕ → delivery.Speech → ℕ → Type 0
IsUnsendable from speech j = (j < length speech) × ((state : delivery.DeliveryState) → delivery.IsReached from speech state → state.sent ≤ j)

-- some datagram before place j has a word for n
pub record IsTold (from : ℕ) (speech : delivery.Speech) (j n : ℕ) : Type 0 where
  pub place : ℕ
  pub act : ℕ
  pub word : delivery.Word
  pub earlier : place < j
  pub gives : delivery.Gives from speech place act n word

-- the answers in the datagram at place j claim n, and no earlier datagram has a word for it
abbrev pub ClaimsUntold : ℕ → delivery.Speech → ℕ → ℕ → Type 0
ClaimsUntold from speech j n = delivery.Claims from speech j n × ¬ IsTold from speech j n

-- some run ends with two different payloads for n
abbrev pub EndsInConflict : ℕ → delivery.Speech → ℕ → Type 0
EndsInConflict from speech n = (end : delivery.DeliveryState) × (x : values.PayloadValue) × (y : values.PayloadValue) × delivery.Ends from speech end × Contains end.held (n, delivery.Word.Told x) × Contains end.held (n, delivery.Word.Told y) × (x ≢ y)

-- some run ends without a word for n, which is asked for and at most the last announced number
abbrev pub EndsWithout : ℕ → delivery.Speech → ℕ → Type 0
EndsWithout from speech n = delivery.IsAsked from n × (n ≤ delivery.last_announced_from from speech) × ((end : delivery.DeliveryState) × delivery.Ends from speech end × ¬ delivery.Holds end n)

-- what a verdict says of the numbers from `from` on. A datagram counts from 1
abbrev pub IsVerdictFrom : ℕ → delivery.Speech → Verdict → Type 0
IsVerdictFrom from speech (Verdict.Unfounded datagram number) =
    ¬ delivery.HasRun from speech × ((j : ℕ) × (datagram ≡ j + 1) × IsLeast (IsUnsendable from speech) j × OnNatural number (IsLeast (ClaimsUntold from speech j)))
IsVerdictFrom from speech (Verdict.Conflict number) = delivery.HasRun from speech × OnNatural number (IsLeast (EndsInConflict from speech))
IsVerdictFrom from speech (Verdict.Open number) = delivery.HasRun from speech × ((n : ℕ) → ¬ EndsInConflict from speech n) × OnNatural number (IsLeast (EndsWithout from speech))
IsVerdictFrom from speech (Verdict.Complete last) =
    (last ≡ pos (delivery.last_announced_from from speech)) × delivery.HasRun from speech × ((n : ℕ) → ¬ EndsInConflict from speech n)
    × ((end : delivery.DeliveryState) → delivery.Ends from speech end → (n : ℕ) → delivery.IsAsked from n → n ≤ delivery.last_announced_from from speech → delivery.Holds end n)
