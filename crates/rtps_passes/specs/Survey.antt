-- What a survey of a recording has: what is announced, and the counts. own: the reliable pairs are known only once all of a recording
-- was heard, and each is judged by all of it; so they are found before anything is judged.
use Rattle.std.specs.Prelude.{ℕ, ◌≡◌}
use Rattle.rtps_discovery.specs.Directory as directory
use Rattle.rtps_discovery.specs.Notice as notice
use Rattle.rtps_audit.specs.Index as index
use Rattle.rtps_audit.specs.Intake as intake_spec
use Rattle.rtps_audit.specs.Report as report
use Rattle.rtps_passes.specs.declared.survey.Survey.{Survey}

-- the survey has taken in this, and no more
pub record IsSurveyBy (intake : intake_spec.Intake) (survey : Survey) : Type 0 where
  pub directory : directory.IsMapOf (intake_spec.acts_together intake.announcing) survey.directory
  pub faults : survey.faults ≡ notice.faults_in (intake_spec.acts_together intake.announcing)
  pub counts : (unsettled : ℕ) → index.counts_with survey.tallies unsettled ≡ report.counts_of intake unsettled
