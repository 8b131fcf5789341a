-- What the calls that judge promise of their answers. own: the standard names no verdict; these are the words in which this
-- project answers. The verdict, and what a caller draws from it, are said together.
use Rattle.std.specs.Prelude.{ℕ, ℤ, pos, ◌≡◌, ◌≤◌, Contains, ◌↔◌, List, All}
use Rattle.rtps_wire.specs.Values as values
use Rattle.rtps_audit.specs.Delivery as delivery
use Rattle.rtps_audit.specs.PlainVerdict as plain_verdict
use Rattle.rtps_audit.specs.FullRun as full_run
use Rattle.rtps_audit.specs.Intake as intake
use Rattle.rtps_audit.specs.Report as report
use Rattle.rtps_audit.specs.RunVerdict as run_verdict
use Rattle.rtps_audit.specs.Speech as speech
use Rattle.rtps_audit.specs.declared.report.Report.{Report}
use Rattle.rtps_audit.specs.declared.verdict.Verdict.{Verdict}

-- A run exists, and every run ends with each number that is asked for, up to the last announced one, received with its
-- one payload or told gone; the last announced number is this one.
pub record IsDeliveredFrom (from : ℕ) (speech : delivery.Speech) (last : ℤ) : Type 0 where
  pub last_number : last ≡ pos (delivery.last_announced_from from speech)
  pub has_run : delivery.HasRun from speech
  pub each_held : (end : delivery.DeliveryState) → delivery.Ends from speech end → (n : ℕ) → delivery.IsAsked from n → n ≤ delivery.last_announced_from from speech → delivery.Holds end n
  pub one_payload : (end : delivery.DeliveryState) → delivery.Ends from speech end → (n : ℕ) (x y : values.PayloadValue) → Contains end.held (n, delivery.Word.Told x) → Contains end.held (n, delivery.Word.Told y) → x ≡ y

-- Each number that an answer claims has a word in an earlier datagram, no number has two different payloads, and each
-- number that is asked for, up to the last announced one, is claimed.
pub record IsPlainFrom (from : ℕ) (speech : delivery.Speech) : Type 0 where
  pub founded : plain_verdict.IsFounded from speech
  pub one_payload : (n : ℕ) → ¬ plain_verdict.SpeaksTwo from speech n
  pub claimed : (n : ℕ) → delivery.IsAsked from n → n ≤ delivery.last_announced_from from speech → plain_verdict.IsClaimed from speech n

-- What is promised of a verdict on the numbers from `from` on. Each verdict is given exactly where all runs give it, with
-- its numbers. It is complete exactly where every run delivers. The plain condition is enough for complete. Where any run
-- exists, the one that takes all it can after each send is a run.
pub record IsExactVerdictFrom (from : ℕ) (speech : delivery.Speech) (given : Verdict) : Type 0 where
  pub verdict : run_verdict.IsVerdictFrom from speech given
  pub complete : (last : ℤ) → (given ≡ Verdict.Complete last) ↔ IsDeliveredFrom from speech last
  pub plain : IsPlainFrom from speech → given ≡ Verdict.Complete (pos (delivery.last_announced_from from speech))
  pub full_run : full_run.HasFullRunFrom from speech given

-- of a verdict on all numbers
abbrev pub IsExactVerdict : delivery.Speech → Verdict → Type 0
IsExactVerdict speech given = IsExactVerdictFrom 1 speech given

-- What is promised of a report on the numbers from `from` on. Its rows are of the matched reliable pairs in order, each
-- with its verdict, and the six counts are exact. A row is complete exactly where every run delivers. Where any run of a
-- row's pair exists, the one that takes all it can after each send is a run.
pub record IsExactReportBy (from : ℕ) (intake : intake.Intake) (given : Report) : Type 0 where
  pub report : report.IsReportBy from intake given
  pub complete : All (λ row. (last : ℤ) → (row.verdict ≡ Verdict.Complete last) ↔ IsDeliveredFrom from (speech.speech_by row.pair.writer row.pair.reader intake.acts) last) given.rows.items
  pub full_run : All (λ row. full_run.HasFullRunFrom from (speech.speech_by row.pair.writer row.pair.reader intake.acts) row.verdict) given.rows.items

-- of a report on a recording, which is the octets of its datagrams in the order of sending
abbrev pub IsExactReportFrom : ℕ → List (List ℕ) → Report → Type 0
IsExactReportFrom from recording given = IsExactReportBy from (intake.intake_of recording) given

-- of a report on all numbers
abbrev pub IsExactReport : List (List ℕ) → Report → Type 0
IsExactReport recording given = IsExactReportFrom 1 recording given
