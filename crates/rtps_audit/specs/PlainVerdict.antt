-- The same verdict by conditions on the recording alone, with no run in them. own: runs say
-- what a verdict means, these conditions are how it is found; a law says that both are the same.
use Rattle.std.specs.Prelude.{ℕ, ◌≤◌, ◌+◌, ◌≡◌, ◌≢◌, pos}
use Rattle.rtps_wire.specs.Values as values
use Rattle.rtps_audit.specs.Delivery as delivery
use Rattle.rtps_audit.specs.RunVerdict as run_verdict
use Rattle.rtps_audit.specs.declared.verdict.Verdict.{Verdict}

-- each number that an answer claims has a word in an earlier datagram
abbrev pub IsFounded : ℕ → delivery.Speech → Type 0
IsFounded from speech = (j n : ℕ) → delivery.Claims from speech j n → run_verdict.IsTold from speech j n

-- some act has the word for n
pub record IsSpoken (from : ℕ) (speech : delivery.Speech) (n : ℕ) (word : delivery.Word) : Type 0 where
  pub place : ℕ
  pub act : ℕ
  pub gives : delivery.Gives from speech place act n word

-- two different payloads are spoken for n
abbrev pub SpeaksTwo : ℕ → delivery.Speech → ℕ → Type 0
SpeaksTwo from speech n = (x : values.PayloadValue) × (y : values.PayloadValue) × IsSpoken from speech n (delivery.Word.Told x) × IsSpoken from speech n (delivery.Word.Told y) × (x ≢ y)

-- some answer claims n
abbrev pub IsClaimed : ℕ → delivery.Speech → ℕ → Type 0
IsClaimed from speech n = (j : ℕ) × delivery.Claims from speech j n

-- n is asked for and at most the last announced number, and no answer claims it
abbrev pub IsUnclaimed : ℕ → delivery.Speech → ℕ → Type 0
IsUnclaimed from speech n = delivery.IsAsked from n × (n ≤ delivery.last_announced_from from speech) × ¬ IsClaimed from speech n

-- what a verdict says of the numbers from `from` on
abbrev pub IsPlainVerdictFrom : ℕ → delivery.Speech → Verdict → Type 0
IsPlainVerdictFrom from speech (Verdict.Unfounded datagram number) =
    (j : ℕ) × (datagram ≡ j + 1) × run_verdict.IsLeast (λ i. (n : ℕ) × run_verdict.ClaimsUntold from speech i n) j × run_verdict.OnNatural number (run_verdict.IsLeast (run_verdict.ClaimsUntold from speech j))
IsPlainVerdictFrom from speech (Verdict.Conflict number) = IsFounded from speech × run_verdict.OnNatural number (run_verdict.IsLeast (SpeaksTwo from speech))
IsPlainVerdictFrom from speech (Verdict.Open number) = IsFounded from speech × ((n : ℕ) → ¬ SpeaksTwo from speech n) × run_verdict.OnNatural number (run_verdict.IsLeast (IsUnclaimed from speech))
IsPlainVerdictFrom from speech (Verdict.Complete last) =
    (last ≡ pos (delivery.last_announced_from from speech)) × IsFounded from speech × ((n : ℕ) → ¬ SpeaksTwo from speech n)
    × ((n : ℕ) → delivery.IsAsked from n → n ≤ delivery.last_announced_from from speech → IsClaimed from speech n)
