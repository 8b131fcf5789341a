-- What a report says of a recording: one row for each reliable pair, and what was counted. own: the
-- counts tell what the verdicts do not speak of.
use Rattle.std.specs.Prelude.{ℕ, Bool, ◌≡◌, ◌&&◌, List, length, map, All, count_by, sum_by}
use Rattle.rtps_receiver.specs.Speech as receiver_speech
use Rattle.rtps_receiver.specs.Values as values
use Rattle.rtps_discovery.specs.Directory as directory_spec
use Rattle.rtps_discovery.specs.Matching as matching
use Rattle.rtps_audit.specs.Intake as intake_spec
use Rattle.rtps_audit.specs.RunVerdict as run_verdict
use Rattle.rtps_audit.specs.Speech as speech
use Rattle.rtps_audit.specs.declared.report.Counts.{Counts}
use Rattle.rtps_audit.specs.declared.report.Report.{Report}
use Rattle.rtps_audit.specs.declared.report.Row.{Row}

-- an ACKNACK for everyone, of any reader and to any writer. It answers nobody (DDSI-RTPS 2.5, 8.3.4 "The RTPS Message
-- Receiver"; own: it claims nothing, so it is counted)
abbrev pub is_undirected : values.ActValue → Bool
is_undirected act = receiver_speech.is_ack_nack act.body && receiver_speech.is_for_all act.dest

-- the counts of what is taken in, of which so many GUIDs are unsettled
abbrev pub counts_of : intake_spec.Intake → ℕ → Counts
counts_of intake unsettled =
    record {
      datagrams = length intake.acts;
      refused = count_by (λ tally. tally.refused) intake.tallies;
      skipped = sum_by (λ tally. tally.skipped) intake.tallies;
      fragments = sum_by (λ tally. tally.fragments) intake.tallies;
      undirected = sum_by (λ acts. count_by is_undirected acts) intake.acts;
      unsettled = unsettled;
    }

-- the row has the verdict on what the acts of a recording say of its pair, of the numbers from `from` on
abbrev pub IsJudgedFrom : ℕ → List (List values.ActValue) → Row → Type 0
IsJudgedFrom from recording row = run_verdict.IsVerdictFrom from (speech.speech_by row.pair.writer row.pair.reader recording) row.verdict

-- The rows are of the reliable pairs of all that the intake announces, by writer and then by reader, and of no others. The
-- verdicts are on the numbers from `from` on.
pub record IsReportBy (from : ℕ) (intake : intake_spec.Intake) (report : Report) : Type 0 where
  pub directory : directory_spec.DirectoryValue
  pub is_map : directory_spec.IsMapOf (intake_spec.acts_together intake.announcing) directory
  pub pairs : map (λ row. row.pair) report.rows.items ≡ matching.reliable_pairs (matching.matches_among (directory_spec.settled_in directory.endpoints))
  pub judged : All (IsJudgedFrom from intake.acts) report.rows.items
  pub counts : report.counts ≡ counts_of intake (length (directory_spec.unsettled_in directory.endpoints))

-- that of a recording, which is the octets of its datagrams in the order of sending
abbrev pub IsReportFrom : ℕ → List (List ℕ) → Report → Type 0
IsReportFrom from recording report = IsReportBy from (intake_spec.intake_of recording) report
