-- What a report says of a recording with its fragments: each row is by what its reader hears. DDSI-RTPS 2.5, 8.3.8.3 "DataFrag". own: a sample is
-- told to a reader, so a verdict on a pair is by the samples that this reader can put together.
use Rattle.std.specs.Prelude.{ℕ, ◌≡◌, All, List, filter, length, map}
use Rattle.rtps_receiver.specs.Values as values
use Rattle.rtps_discovery.specs.Directory as directory_spec
use Rattle.rtps_discovery.specs.Matching as matching
use Rattle.rtps_audit.specs.Index as index_spec
use Rattle.rtps_audit.specs.Intake as intake_spec
use Rattle.rtps_audit.specs.Placed as placed
use Rattle.rtps_audit.specs.Report as report_spec
use Rattle.rtps_audit.specs.declared.index.Index.{Index}
use Rattle.rtps_audit.specs.declared.report.Report.{Report}
use Rattle.rtps_audit.specs.declared.report.Row.{Row}
use Rattle.rtps_fragments.specs.Hearing as hearing
use Rattle.rtps_fragments.specs.declared.sample_report.Sender.{Sender}

-- the row has the verdict on what its reader hears of these acts, of the numbers from `from` on
abbrev pub IsHeardFrom : ℕ → List (List values.ActValue) → Row → Type 0
IsHeardFrom from recording row = report_spec.IsJudgedFrom from (hearing.heard_by row.pair.reader recording) row

-- The rows are of the reliable pairs of all that the intake announces, by writer and then by reader, and of no others. Each has the verdict on
-- what its reader hears, of the numbers from `from` on.
pub record IsReportHeard (from : ℕ) (intake : intake_spec.Intake) (report : Report) : Type 0 where
  pub directory : directory_spec.DirectoryValue
  pub is_map : directory_spec.IsMapOf (intake_spec.acts_together intake.announcing) directory
  pub pairs : map (λ row. row.pair) report.rows.items ≡ matching.reliable_pairs (matching.matches_among (directory_spec.settled_in directory.endpoints))
  pub judged : All (IsHeardFrom from intake.acts) report.rows.items
  pub counts : report.counts ≡ report_spec.counts_of intake (length (directory_spec.unsettled_in directory.endpoints))

-- the acts of a writer send fragments, by an index
abbrev pub IsSender : Index → Sender → Type 0
IsSender index sender = (intake : intake_spec.Intake) → index_spec.IsIndexBy intake index → sender.sends ≡ hearing.have_fragments (filter (placed.is_from sender.writer) (placed.placed_in intake.acts))

-- rows of the same pairs that have the verdicts on what their readers hear of the same acts are the same
abbrev pub RowsHeardAreOne : Type 0
RowsHeardAreOne =
    (from : ℕ) (recording : List (List values.ActValue)) (rows others : List Row) → map (λ row. row.pair) rows ≡ map (λ row. row.pair) others
    → All (IsHeardFrom from recording) rows → All (IsHeardFrom from recording) others → rows ≡ others

-- what is taken in has one such report: the same rows, and the same counts
abbrev pub HasOneReportHeard : Type 0
HasOneReportHeard =
    (from : ℕ) (intake : intake_spec.Intake) (one other : Report) → IsReportHeard from intake one → IsReportHeard from intake other
    → (one.rows.items ≡ other.rows.items) × (one.counts ≡ other.counts)
