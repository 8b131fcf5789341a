-- What the acts of readers are looked through for once. own: one reader may have many writers, and what it does not do is then known of all of
-- them.
use Rattle.std.specs.Prelude.{ℕ, ◌≡◌, false, filter, IfSome, List}
use Rattle.std.specs.BTreeMap.{BTreeMap, get}
use Rattle.std.specs.List.{list_any}
use Rattle.rtps_ids.specs.declared.identity.Guid.{Guid}
use Rattle.rtps_discovery.specs.GuidOrder as guid_order
use Rattle.rtps_audit.specs.Intake as intake_spec
use Rattle.rtps_audit.specs.Placed as placed
use Rattle.rtps_fragments.specs.Hearing as hearing
use Rattle.rtps_evidence.specs.Missed as missed
use Rattle.rtps_evidence.specs.declared.reader_notes.ReaderNote.{ReaderNote}

-- it is right of a reader whose acts these are
pub record IsNoteOf (acts : List placed.PlacedValue) (note : ReaderNote) : Type 0 where
  pub fragments : note.sends_fragments ≡ hearing.have_fragments acts
  pub asks : note.asks ≡ false → (writer reader : Guid) (n : ℕ) → list_any (missed.asks_for writer reader n) acts ≡ false

-- each is right of the reader that it is of, by the acts that are taken in
abbrev pub AreNotes : intake_spec.Intake → BTreeMap Guid ReaderNote → Type 0
AreNotes intake notes = (reader : Guid) → IfSome (get guid_order.guid_cmp notes reader) (IsNoteOf (filter (placed.is_from reader) (placed.placed_in intake.acts)))
