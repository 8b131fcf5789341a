use Rattle.rtps_audit.specs.Index as index_spec
use Rattle.rtps_audit.specs.Intake as intake_spec
use Rattle.rtps_evidence.specs.ReaderNotes as reader_notes
use Rattle.rtps_evidence.proofs.reader_notes.ReaderNotes.of.Given as goal

-- those of the pairs so far
abbrev pub invariant-loop-pair : goal.invariant-loop-pair
invariant-loop-pair l = (intake : intake_spec.Intake) → index_spec.IsIndexBy intake l.index → reader_notes.AreNotes intake l.notes
