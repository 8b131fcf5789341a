-- What a datagram adds to the counts of a recording. own: fragments are not put together here. They have a count of their
-- own, since samples may have been sent in them that no item shows.
use Rattle.std.specs.Prelude.{ℕ, ◌==◌, ◌||◌, not, Bool, false, count_by, is_some, List}
use Rattle.rtps_wire.specs.Message as message
use Rattle.rtps_wire.specs.Reading as reading
use Rattle.rtps_wire.specs.Values as values
use Rattle.rtps_wire.specs.declared.counts.Tally.{Tally}
use Rattle.rtps_wire.specs.declared.layout.id.TheConstants as id_layout

-- NACK_FRAG, HEARTBEAT_FRAG and DATA_FRAG (DDSI-RTPS 2.5, 9.4.5.1.1 "SubmessageId")
abbrev pub is_fragment_id : ℕ → Bool
is_fragment_id id = id == id_layout.NACK_FRAG || id == id_layout.HEARTBEAT_FRAG || id == id_layout.DATA_FRAG

-- a submessage that belongs to fragments
abbrev pub is_fragment : values.BodyValue → Bool
is_fragment (values.BodyValue.Skipped id) = is_fragment_id id
is_fragment _ = false

-- a submessage of another id that is not read
abbrev pub is_skipped : values.BodyValue → Bool
is_skipped (values.BodyValue.Skipped id) = not (is_fragment_id id)
is_skipped _ = false

-- how many items belong to fragments
abbrev pub fragments_in : List values.ItemValue → ℕ
fragments_in items = count_by (λ item. is_fragment item.body) items

-- how many items are skipped otherwise
abbrev pub skipped_in : List values.ItemValue → ℕ
skipped_in items = count_by (λ item. is_skipped item.body) items

-- what a datagram of this reading adds
abbrev pub tally_of : message.Reading → Tally
tally_of reading = record { refused = is_some reading.ending; skipped = skipped_in reading.items; fragments = fragments_in reading.items }

-- the tally of what is read
abbrev pub tally_of_outcomes : List reading.Outcome → Tally
tally_of_outcomes results =
    record { refused = is_some (reading.refusal_among results); skipped = skipped_in (reading.items_among results); fragments = fragments_in (reading.items_among results) }
