-- Notes of readers, with one more.
use Rattle.std.proofs.Common.{◌≡◌, Bool, true, false, cond, filter, refl, sym, subst, Option, Some}
use Rattle.std.specs.Prelude.{IfSome}
use Rattle.std.specs.BTreeMap.{BTreeMap, Updates, get}
use Rattle.std.specs.Ordering.{is_eq}
use Rattle.rtps_ids.specs.declared.identity.Guid.{Guid}
use Rattle.rtps_discovery.specs.GuidOrder as guid_order
use Rattle.rtps_discovery.proofs.Offered.{exact_guids, guids_total}
use Rattle.rtps_audit.specs.Intake as intake_spec
use Rattle.rtps_audit.specs.Placed as placed
use Rattle.rtps_audit.proofs.Offered.{entry_written, equal_of}
use Rattle.rtps_evidence.specs.ReaderNotes as reader_notes
use Rattle.rtps_evidence.specs.declared.reader_notes.ReaderNote.{ReaderNote}

reader_at : (intake : intake_spec.Intake) (old new : BTreeMap Guid ReaderNote) (key reader : Guid) (note : ReaderNote) (b : Bool) → is_eq (guid_order.guid_cmp reader key) ≡ b
    → get guid_order.guid_cmp new reader ≡ cond b (Some note) (get guid_order.guid_cmp old reader) → reader_notes.IsNoteOf (filter (placed.is_from key) (placed.placed_in intake.acts)) note
    → reader_notes.AreNotes intake old → IfSome (get guid_order.guid_cmp new reader) (reader_notes.IsNoteOf (filter (placed.is_from reader) (placed.placed_in intake.acts)))
reader_at intake old new key reader note true e is right notes =
    let same : reader ≡ key = exact_guids reader key (equal_of (guid_order.guid_cmp reader key) e) in
    subst (λ (found : Option ReaderNote). IfSome found (reader_notes.IsNoteOf (filter (placed.is_from reader) (placed.placed_in intake.acts)))) (sym is)
    (subst (λ (g : Guid). reader_notes.IsNoteOf (filter (placed.is_from g) (placed.placed_in intake.acts)) note) (sym same) right)
reader_at intake old new key reader note false e is right notes =
    subst (λ (found : Option ReaderNote). IfSome found (reader_notes.IsNoteOf (filter (placed.is_from reader) (placed.placed_in intake.acts)))) (sym is) (notes reader)

pub reader_noted : (intake : intake_spec.Intake) (old new : BTreeMap Guid ReaderNote) (key : Guid) (note : ReaderNote) → Updates guid_order.guid_cmp old new key (Some note) → reader_notes.IsNoteOf (filter (placed.is_from key) (placed.placed_in intake.acts)) note
    → reader_notes.AreNotes intake old → reader_notes.AreNotes intake new
reader_noted intake old new key note updates right notes = λ reader.
    reader_at intake old new key reader note (is_eq (guid_order.guid_cmp reader key)) refl (entry_written guids_total old new key reader note updates) right notes
