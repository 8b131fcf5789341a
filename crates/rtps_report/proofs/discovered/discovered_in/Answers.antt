use Rattle.std.proofs.Common.{Bor, ◌∙◌, ℕ, List, ap, map}
use Rattle.rtps_audit.specs.Intake as intake_spec
use Rattle.rtps_known.specs.declared.untold.Untold.{Untold}
use Rattle.rtps_report.specs.ActsRead as acts_read
use Rattle.rtps_report.specs.NotTold as not_told
use Rattle.rtps_report.proofs.discovered.discovered_in.Goals as goal

pub returns-clause-not_told : goal.returns-clause-not_told
returns-clause-not_told c = λ intake index same announced.
    let read = c.args.read.now in
    let recording = map (λ (datagram : Bor (List ℕ)). datagram.now) read.datagrams.now in
    let acts = acts_read.timed_acts recording read.times.now.of_datagrams in
    record {
      visits = c.in_ok-participants.field-0.visits;
      are_visits = c.in_ok-participants.ensures.visits intake index same announced;
      untold = c.in_ok-untold.untold.items;
      are_untold = c.in_ok-untold.ensures acts (intake_spec.acts_together intake.announcing) c.requires announced;
      is_found = c.in_ok-not_told.ensures ∙ ap (λ (items : List Untold). map (not_told.not_told_by read.directory.now.endpoints) items) c.deref.ensures.value;
    }
