-- The acts of a recording that may announce something, in their places. DDSI-RTPS 2.5, 8.5 "Discovery Module": built-in writers announce.
-- own: all DATA of built-in writers are kept, though some announce nothing. They are few, so what a directory does not keep (policies and
-- hosts) is read of them without another walk through all acts.
use Rattle.std.specs.Prelude.{◌≡◌, Bool, false, List, filter, map}
use Rattle.rtps_receiver.specs.Values as values
use Rattle.rtps_audit.specs.Index as index
use Rattle.rtps_audit.specs.Intake as intake
use Rattle.rtps_audit.specs.Placed as placed
use Rattle.rtps_fragments.specs.Announcing as announcing
use Rattle.rtps_fragments.specs.declared.announcements.Indexed.{Indexed}

-- a DATA of a built-in writer
abbrev pub is_of_built_in : values.ActBodyValue → Bool
is_of_built_in (values.ActBodyValue.Data value) = announcing.is_built_in value.writer
is_of_built_in (values.ActBodyValue.Heartbeat value) = false
is_of_built_in (values.ActBodyValue.AckNack value) = false
is_of_built_in (values.ActBodyValue.Gap value) = false
is_of_built_in (values.ActBodyValue.DataFrag value) = false
is_of_built_in (values.ActBodyValue.NackFrag value) = false

-- the act is one
abbrev pub is_announcement : placed.PlacedValue → Bool
is_announcement placed = is_of_built_in placed.act.body

-- those among the acts of datagrams
abbrev pub announcements_in : List (List values.ActValue) → List placed.PlacedValue
announcements_in datagrams = filter is_announcement (placed.placed_in datagrams)

-- the index has taken in this, and these are its announcements
pub record IsIndexedBy (intake : intake.Intake) (indexed : Indexed) : Type 0 where
  pub index : index.IsIndexBy intake indexed.index
  pub announcements : map placed.placed_value indexed.announcements.items ≡ announcements_in intake.announcing
