use Rattle.std.proofs.Common.{◌+◌, ◌∙◌, ap, map, subst, sym}
use Rattle.std.specs.Prelude.{if◌then◌else◌}
use Rattle.std.proofs.lemmas.List.Sums.{sum_by-append}
use Rattle.rtps_receiver.specs.Values as values
use Rattle.rtps_discovery.specs.Directory as directory
use Rattle.rtps_discovery.specs.Notice as notice
use Rattle.rtps_audit.specs.Intake as intake_spec
use Rattle.rtps_audit.proofs.Offered.{counts_more, together_push}
use Rattle.rtps_passes.proofs.survey.Survey.note.Goals as goal

pub returns : goal.returns
returns c = λ intake is.
    let acts = map values.spoken_value c.args.acts.now in
    let tallied = c.note.ensures in
    let together = together_push intake.announcing acts in
    record {
      directory = subst (λ l. directory.IsMapOf l c.note_all_copied.new.self) (sym together) (c.in_ok-faults.ensures.map (intake_spec.acts_together intake.announcing) is.directory);
      faults = ap (λ n. n + c.from.result) is.faults ∙ ap (λ n. notice.faults_in (intake_spec.acts_together intake.announcing) + n) (c.from.ensures ∙ c.in_ok-faults.ensures.faults)
          ∙ sym (sum_by-append (λ (act : values.ActValue). if notice.is_fault (notice.answer_of (notice.announcement_of act)) then 1 else 0) (intake_spec.acts_together intake.announcing) acts) ∙ ap notice.faults_in (sym together);
      counts = counts_more intake c.args.tally acts acts c.args.self.now.tallies c.note.new.self is.counts tallied.datagrams tallied.refused tallied.skipped tallied.fragments (tallied.undirected ∙ ap (λ n. c.args.self.now.tallies.undirected + n) c.undirected_among.ensures);
    }
