use Rattle.std.proofs.Common.{◌≡◌, ◌∙◌, ℕ, ap, refl}
use Rattle.rtps_discovery.specs.Directory as directory_spec
use Rattle.rtps_discovery.specs.Notice as notice
use Rattle.rtps_text.specs.ListText as list_text
use Rattle.rtps_text.proofs.text.list_text.list_text.Goals as goal
use Rattle.rtps_text.proofs.text.list_text.list_text.Goals.{in-Skipped+in_ok-faults-in-Skipped, in-Read+in_ok-faults-in-Read}

pub returns : goal.returns
returns c =
    let acts = list_text.announcing_in c.args.fragments c.args.recording.now.datagrams in
    let directory = c.match-fragments.directory in
    let known : directory_spec.IsMapOf acts directory × (c.match-fragments.faults ≡ notice.faults_in acts) = elim c.match-fragments.branch [
      | in-Skipped+in_ok-faults-in-Skipped w ↦
          rw (w.in-Skipped.is, w.directory-is, w.faults-is) (w.in_ok-faults-in-Skipped.ensures.map, w.in_ok-faults-in-Skipped.ensures.faults)
      | in-Read+in_ok-faults-in-Read w ↦
          rw (w.in-Read.is, w.directory-is, w.faults-is) (w.in_ok-faults-in-Read.ensures.map, w.in_ok-faults-in-Read.ensures.faults)
    ] in
    ((directory, known.0, c.in_ok-text.ensures ∙ ap (λ (faults : ℕ). list_text.directory_text directory faults) known.1), refl)
