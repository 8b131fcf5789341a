-- Where a participant learned of an endpoint. DDSI-RTPS 2.5, 8.5.4 "The Simple Endpoint Discovery Protocol", 8.3.8.1 "AckNack", 8.3.8.2 "Data" and
-- 8.3.8.12 "NackFrag". own: who asks for a number has not got it, so what it heard before was lost, and who acknowledges it has got it. A
-- number is that of one DATA, or of a sample that was put together, which stands as a DATA where it became whole.
use Rattle.std.specs.Prelude.{ℕ, ◌==◌, ◌&&◌, Bool, false, if◌then◌else◌, List, nat_lt, Option, Some, None}
use Rattle.std.specs.Option.{option_or}
use Rattle.rtps_ids.specs.declared.identity.EntityId.{EntityId}
use Rattle.rtps_ids.specs.declared.identity.Guid.{Guid}
use Rattle.rtps_ids.specs.declared.identity.GuidPrefix.{GuidPrefix}
use Rattle.rtps_receiver.specs.Said as said
use Rattle.rtps_receiver.specs.Speech as speech
use Rattle.rtps_receiver.specs.Values as values
use Rattle.rtps_known.specs.Places as places
use Rattle.rtps_known.specs.Tellings as tellings
use Rattle.rtps_known.specs.declared.place.Place.{Place}

-- a number of a built-in writer of endpoints, and a participant
pub record Inquiry : Type 0 where
  pub writer : Guid
  pub prefix : GuidPrefix
  pub number : ℕ

-- ---- which writer an act is about

-- the built-in writer of endpoints of the destination, where these are its entity and that of its reader
abbrev pub writer_for : Option GuidPrefix → EntityId → EntityId → Option Guid
writer_for (Some dest) writer reader = if tellings.are_built_in writer reader then Some (record { prefix = dest; entity = writer }) else None
writer_for None writer reader = None

-- the built-in writer of endpoints that sends a number, or that is asked, by an act with this source and destination
abbrev pub subject_by : GuidPrefix → Option GuidPrefix → values.ActBodyValue → Option Guid
subject_by source dest (values.ActBodyValue.Data value) = if tellings.is_built_in value.writer then Some (record { prefix = source; entity = value.writer }) else None
subject_by source dest (values.ActBodyValue.AckNack value) = writer_for dest value.writer value.reader
subject_by source dest (values.ActBodyValue.NackFrag value) = writer_for dest value.writer value.reader
subject_by source dest (values.ActBodyValue.Heartbeat value) = None
subject_by source dest (values.ActBodyValue.Gap value) = None
subject_by source dest (values.ActBodyValue.DataFrag value) = None

-- that of an act
abbrev pub subject_in : values.ActValue → Option Guid
subject_in act = subject_by act.source act.dest act.body

-- an act is about this writer
abbrev pub is_about : Guid → values.ActValue → Bool
is_about writer act = tellings.holds (λ subject. tellings.is_guid subject writer) (subject_in act)

-- ---- what it says of a number

-- a DATA sends the number
abbrev pub sends : values.ActBodyValue → ℕ → Bool
sends (values.ActBodyValue.Data value) n = n == value.number
sends (values.ActBodyValue.Heartbeat value) n = false
sends (values.ActBodyValue.AckNack value) n = false
sends (values.ActBodyValue.Gap value) n = false
sends (values.ActBodyValue.DataFrag value) n = false
sends (values.ActBodyValue.NackFrag value) n = false

-- the base of an ACKNACK; 0 of any other act
abbrev pub base_in : values.ActBodyValue → ℕ
base_in (values.ActBodyValue.AckNack value) = value.set.base
base_in (values.ActBodyValue.Data value) = 0
base_in (values.ActBodyValue.Heartbeat value) = 0
base_in (values.ActBodyValue.Gap value) = 0
base_in (values.ActBodyValue.DataFrag value) = 0
base_in (values.ActBodyValue.NackFrag value) = 0

-- the participant hears an act that sends the number
abbrev pub hears : Inquiry → places.PlacedAct → Bool
hears inquiry placed = is_about inquiry.writer placed.act && (sends placed.act.body inquiry.number && tellings.is_to placed.act.dest inquiry.prefix)

-- its reader asks for the number
abbrev pub asks : Inquiry → places.PlacedAct → Bool
asks inquiry placed = is_about inquiry.writer placed.act && (speech.is_prefix placed.act.source inquiry.prefix && (said.said placed.act.body).lacked inquiry.number)

-- its reader acknowledges the number: the base is above it
abbrev pub claims : Inquiry → places.PlacedAct → Bool
claims inquiry placed = is_about inquiry.writer placed.act && (speech.is_prefix placed.act.source inquiry.prefix && nat_lt inquiry.number (base_in placed.act.body))

-- ---- where it learned of it

-- before it acknowledges the number, and behind the last place there where it asks for it: the first that it hears
abbrev pub heard_again : Inquiry → List places.PlacedAct → Option Place
heard_again inquiry acts = places.place_of (hears inquiry) (places.behind_last (asks inquiry) (places.before_first (claims inquiry) acts))

-- that, or, where it hears none there, the first that it hears at all
abbrev pub learned : Inquiry → List places.PlacedAct → Option Place
learned inquiry acts = option_or (heard_again inquiry acts) (places.place_of (hears inquiry) acts)
