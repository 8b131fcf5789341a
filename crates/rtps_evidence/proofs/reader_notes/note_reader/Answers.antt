use Rattle.std.proofs.Common.{List, subst}
use Rattle.rtps_audit.specs.Placed as placed
use Rattle.rtps_evidence.specs.ReaderNotes as reader_notes
use Rattle.rtps_evidence.proofs.ReaderLemmas.{reader_noted}
use Rattle.rtps_evidence.proofs.reader_notes.note_reader.Goals as goal

pub returns-in_ok-insert : goal.returns-in_ok-insert
returns-in_ok-insert c = λ intake is notes.
    reader_noted intake c.args.notes.now c.insert.new.self c.args.reader c.note_of.result c.in_ok-insert.ensures.updates
    (subst (λ (l : List placed.PlacedValue). reader_notes.IsNoteOf l c.note_of.result) (c.acts_of.ensures intake is) c.note_of.ensures) notes
