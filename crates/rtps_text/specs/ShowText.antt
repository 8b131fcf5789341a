-- What `show` prints of a recording.
-- own: one line for each datagram, submessage and refusal, of fields with one space between them, so that
-- common tools can search it and take it apart.
use Rattle.std.specs.Prelude.{ℕ, ◌≡◌, ◌<◌, ◌+◌, ◌/◌, ◌==◌, ◌||◌, ◌++◌, Bool, if◌then◌else◌, List, [], ◌∷◌, codes, drop, is_some, length, map, slice_index, Option, Some, None, decimal, flat_map, All}
use Rattle.std.specs.Fmt.{signed_decimal}
use Rattle.std.specs.Int.{to_be_bytes, w32}
use Rattle.std.specs.List.{enumerate_from, range_with_len}
use Rattle.hex.specs.Hex.{encode_lower}
use Rattle.rtps_ids.specs.NumberSet as number_set
use Rattle.rtps_ids.specs.declared.identity.GuidPrefix.{GuidPrefix}
use Rattle.rtps_ids.specs.declared.identity.Stamp.{Stamp}
use Rattle.rtps_ids.specs.declared.identity.Vendor.{Vendor}
use Rattle.rtps_ids.specs.declared.identity.Version.{Version}
use Rattle.rtps_ids.specs.declared.order.Order.{Order}
use Rattle.rtps_params.specs.Lists as lists
use Rattle.rtps_receiver.specs.Acts as acts
use Rattle.rtps_receiver.specs.declared.state.State.{State}
use Rattle.rtps_wire.specs.DataFrag as data_frag
use Rattle.rtps_wire.specs.Message as message
use Rattle.rtps_wire.specs.NackFrag as nack_frag
use Rattle.rtps_wire.specs.Reading as reading
use Rattle.rtps_wire.specs.Skipped as skipped
use Rattle.rtps_wire.specs.Values as values
use Rattle.rtps_wire.specs.declared.body.AckNackBody.{AckNackBody}
use Rattle.rtps_wire.specs.declared.body.GapBody.{GapBody}
use Rattle.rtps_wire.specs.declared.body.HeartbeatBody.{HeartbeatBody}
use Rattle.rtps_wire.specs.declared.fault.Refusal.{Refusal}
use Rattle.rtps_wire.specs.FaultText as fault_text
use Rattle.rtps_wire.specs.declared.header.Header.{Header}
use Rattle.rtps_wire.specs.declared.nack_frag.NackFrag.{NackFrag}
use Rattle.rtps_report.specs.Recording as recording
use Rattle.rtps_lines.specs.Lines as lines
use Rattle.rtps_report.specs.declared.findings.Ending.{Ending}
use Rattle.rtps_fragments.specs.declared.fragments.Fragments.{Fragments}

-- the word for an order of octets
unfoldable pub order_text : Order → List ℕ
order_text Order.Big = codes "be"
order_text Order.Little = codes "le"

-- a flag as a digit
unfoldable pub digit_of : Bool → List ℕ
digit_of flag = if flag then codes "1" else codes "0"

-- a version, as in 2.5
unfoldable pub version_text : Version → List ℕ
version_text version = decimal version.major ++ codes "." ++ decimal version.minor

-- how many octets the inline QoS has, its sentinel included
unfoldable pub qos_octets : Option lists.ListValue → ℕ
qos_octets None = 0
qos_octets (Some list) = length list.octets

-- a word of a set as 8 digits
abbrev pub long_digits : ℕ → List ℕ
long_digits long = encode_lower (to_be_bytes w32 long)

-- the first words of a set
abbrev pub first_longs : number_set.NumberSetValue → ℕ → List ℕ
first_longs set n = map (λ i. slice_index set.words i) (range_with_len 0 n)

-- the bits of a set: the words that hold them, or a dash where it has none
abbrev pub bitmap_text : number_set.NumberSetValue → List ℕ
bitmap_text set = if set.count == 0 then codes "-" else flat_map long_digits (first_longs set ((set.count + 31) / 32))

-- a time, or that there is none
unfoldable pub time_text : Option Stamp → List ℕ
time_text None = codes "none"
time_text (Some stamp) = decimal stamp.seconds ++ codes " " ++ decimal stamp.fraction

-- a participant, or that it is for everyone
unfoldable pub destination_text : Option GuidPrefix → List ℕ
destination_text None = codes "all"
destination_text (Some prefix) = encode_lower prefix.0

-- what the line of an act ends with: from whom, for whom, and when, by the receiver's state at its place
unfoldable pub state_text : State → List ℕ
state_text state =
    codes "from " ++ (encode_lower state.source.prefix.0 ++ (codes " to " ++ (destination_text state.dest ++ (codes " time " ++ time_text state.stamp))))

-- The end of the line of an act in this state. The lines of all acts in one state end alike, so that the program puts it together once.
abbrev pub tail_text : State → List ℕ
tail_text state = codes " " ++ (state_text state ++ codes "\n")

-- what is kept of the line of an act for the next one is such an end, where there is anything
abbrev pub IsTailIn : State → List ℕ → Type 0
IsTailIn state tail = 0 < length tail → tail ≡ tail_text state

-- whether a body says something of the state of what follows it
abbrev pub says_of_state : values.BodyValue → Bool
says_of_state body = is_some (acts.says_source body) || (is_some (acts.says_destination body) || is_some (acts.says_time body))

-- the line of a DATA: its name, the place of its first octet, the order of the octets of its numbers, its fields, and the state
-- at its place
abbrev pub data_line : State → ℕ → Order → values.DataValue → List ℕ
data_line state at order value = lines.line_of (codes "data" ∷ decimal at ∷ order_text order
    ∷ codes "reader" ∷ encode_lower value.reader.0 ∷ codes "writer" ∷ encode_lower value.writer.0 ∷ codes "number" ∷ decimal value.number
    ∷ codes "qos" ∷ decimal (qos_octets value.qos) ∷ codes "payload" ∷ lines.payload_text value.payload ∷ state_text state ∷ [])

-- the line of a DATA_FRAG that is read: the number of its first fragment, how many fragments it has, the size of a fragment and of
-- the sample, and how many octets its fragments have
abbrev pub data_frag_line : State → ℕ → data_frag.DataFragValue → List ℕ
data_frag_line state at value = lines.line_of (codes "data_frag" ∷ decimal at ∷ order_text value.order
    ∷ codes "reader" ∷ encode_lower value.reader.0 ∷ codes "writer" ∷ encode_lower value.writer.0 ∷ codes "number" ∷ decimal value.number
    ∷ codes "start" ∷ decimal value.first ∷ codes "count" ∷ decimal value.count
    ∷ codes "size" ∷ decimal value.shape.fragment ∷ codes "sample" ∷ decimal value.shape.sample
    ∷ codes "qos" ∷ decimal (qos_octets value.qos) ∷ codes "key" ∷ digit_of value.shape.is_key
    ∷ codes "octets" ∷ decimal (length value.octets) ∷ state_text state ∷ [])

-- the line of a HEARTBEAT
abbrev pub heartbeat_line : State → ℕ → Order → HeartbeatBody → List ℕ
heartbeat_line state at order value = lines.line_of (codes "heartbeat" ∷ decimal at ∷ order_text order
    ∷ codes "reader" ∷ encode_lower value.reader.0 ∷ codes "writer" ∷ encode_lower value.writer.0
    ∷ codes "first" ∷ decimal value.first ∷ codes "last" ∷ signed_decimal value.last ∷ codes "count" ∷ decimal value.count
    ∷ codes "final" ∷ digit_of value.is_final ∷ codes "live" ∷ digit_of value.live ∷ state_text state ∷ [])

-- the line of an ACKNACK
abbrev pub ack_nack_line : State → ℕ → Order → AckNackBody → List ℕ
ack_nack_line state at order value = lines.line_of (codes "acknack" ∷ decimal at ∷ order_text order
    ∷ codes "reader" ∷ encode_lower value.reader.0 ∷ codes "writer" ∷ encode_lower value.writer.0
    ∷ codes "base" ∷ decimal value.set.base ∷ codes "bits" ∷ decimal value.set.count ∷ bitmap_text value.set
    ∷ codes "count" ∷ decimal value.count ∷ codes "final" ∷ digit_of value.is_final ∷ state_text state ∷ [])

-- the line of a NACK_FRAG that is read: the number of the sample, and the set of the fragments that the reader lacks
abbrev pub nack_frag_line : State → ℕ → Order → NackFrag → List ℕ
nack_frag_line state at order value = lines.line_of (codes "nack_frag" ∷ decimal at ∷ order_text order
    ∷ codes "reader" ∷ encode_lower value.reader.0 ∷ codes "writer" ∷ encode_lower value.writer.0 ∷ codes "number" ∷ decimal value.number
    ∷ codes "base" ∷ decimal value.set.base ∷ codes "bits" ∷ decimal value.set.count ∷ bitmap_text value.set
    ∷ codes "count" ∷ decimal value.count ∷ state_text state ∷ [])

-- the line of a GAP
abbrev pub gap_line : State → ℕ → Order → GapBody → List ℕ
gap_line state at order value = lines.line_of (codes "gap" ∷ decimal at ∷ order_text order
    ∷ codes "reader" ∷ encode_lower value.reader.0 ∷ codes "writer" ∷ encode_lower value.writer.0 ∷ codes "start" ∷ decimal value.start
    ∷ codes "base" ∷ decimal value.list.base ∷ codes "bits" ∷ decimal value.list.count ∷ bitmap_text value.list ∷ state_text state ∷ [])

-- the line of an INFO_TS
abbrev pub info_ts_line : ℕ → Order → Option Stamp → List ℕ
info_ts_line at order time = lines.line_of (codes "info_ts" ∷ decimal at ∷ order_text order ∷ codes "time" ∷ time_text time ∷ [])

-- the line of an INFO_DST
abbrev pub info_dst_line : ℕ → Order → GuidPrefix → List ℕ
info_dst_line at order prefix = lines.line_of (codes "info_dst" ∷ decimal at ∷ order_text order ∷ codes "prefix" ∷ encode_lower prefix.0 ∷ [])

-- the line of an INFO_SRC
abbrev pub info_src_line : ℕ → Order → Version → Vendor → GuidPrefix → List ℕ
info_src_line at order version vendor prefix = lines.line_of (codes "info_src" ∷ decimal at ∷ order_text order
    ∷ codes "version" ∷ version_text version ∷ codes "vendor" ∷ encode_lower vendor.0 ∷ codes "prefix" ∷ encode_lower prefix.0 ∷ [])

-- the line of a submessage that is not read
abbrev pub skipped_line : ℕ → ℕ → List ℕ
skipped_line at id = lines.line_of (codes "skipped" ∷ decimal at ∷ codes "id" ∷ encode_lower (id ∷ []) ∷ [])

-- the line of a submessage, in the receiver's state at its place
abbrev pub body_line : State → ℕ → Order → values.BodyValue → List ℕ
body_line state at order (values.BodyValue.Data value) = data_line state at order value
body_line state at order (values.BodyValue.Heartbeat value) = heartbeat_line state at order value
body_line state at order (values.BodyValue.AckNack value) = ack_nack_line state at order value
body_line state at order (values.BodyValue.Gap value) = gap_line state at order value
body_line state at order (values.BodyValue.InfoTs time) = info_ts_line at order time
body_line state at order (values.BodyValue.InfoDst prefix) = info_dst_line at order prefix
body_line state at order (values.BodyValue.InfoSrc version vendor prefix) = info_src_line at order version vendor prefix
body_line state at order (values.BodyValue.Skipped id) = skipped_line at id

-- the line of an item at whose place the receiver is in this state
abbrev pub item_line : State → values.ItemValue → List ℕ
item_line state item = body_line state item.at item.order item.body

-- what a submessage says that is read only where fragments are: fragments that it has, or which ones a reader lacks
pub data FragmentsValue : Type 0 where
  Sent : (value : data_frag.DataFragValue) → FragmentsValue
  Lacked : (order : Order) → (value : NackFrag) → FragmentsValue

-- the line of it
abbrev pub fragments_text : State → ℕ → FragmentsValue → List ℕ
fragments_text state at (Sent value) = data_frag_line state at value
fragments_text state at (Lacked order value) = nack_frag_line state at order value

-- the line of a submessage that is not read, or of what it says of fragments
abbrev pub unread_line : State → ℕ → ℕ → Option FragmentsValue → List ℕ
unread_line state at id None = skipped_line at id
unread_line state at id (Some value) = fragments_text state at value

-- the line of an item that says this of fragments. Only one that is skipped can say something
abbrev pub fragments_line : State → values.ItemValue → FragmentsValue → Option ℕ → List ℕ
fragments_line state item value None = item_line state item
fragments_line state item value (Some id) = fragments_text state item.at value

-- the line of an item that says this of fragments, if it says something
abbrev pub line_with : State → values.ItemValue → Option FragmentsValue → List ℕ
line_with state item None = item_line state item
line_with state item (Some value) = fragments_line state item value (skipped.skipped_id item.body)

-- the line of an item by what is said of fragments at each place
abbrev pub shown_line : (ℕ → Option FragmentsValue) → State → values.ItemValue → List ℕ
shown_line fragments state item = line_with state item (fragments item.at)

-- a DATA_FRAG or a NACK_FRAG, whichever there is
abbrev pub said_of : Order → Option data_frag.DataFragValue → Option NackFrag → Option FragmentsValue
said_of order (Some value) lacked = Some (Sent value)
said_of order None (Some value) = Some (Lacked order value)
said_of order None None = None

-- what the octets from the first one of a submessage on say of fragments
unfoldable pub said_at : List ℕ → Option FragmentsValue
said_at rest = said_of (message.order_of (message.flags_of rest)) (data_frag.data_frag_at rest) (nack_frag.nack_frag_at rest)

-- what is said of fragments at a place of a datagram, if it is read
abbrev pub fragments_at : Fragments → List ℕ → ℕ → Option FragmentsValue
fragments_at Fragments.Skipped datagram at = None
fragments_at Fragments.Read datagram at = said_at (drop at datagram)

-- the line of a refusal: where it is and why
abbrev pub refusal_line : Refusal → List ℕ
refusal_line refusal = lines.line_of (codes "refused" ∷ decimal refusal.at ∷ fault_text.fault_name refusal.fault ∷ [])

-- the line of a datagram of this number, by its header, if it has one
abbrev pub datagram_line : ℕ → Option Header → List ℕ
datagram_line number None = lines.line_of (codes "datagram" ∷ decimal number ∷ codes "unread" ∷ [])
datagram_line number (Some header) = lines.line_of (codes "datagram" ∷ decimal number ∷ codes "version" ∷ version_text header.version
    ∷ codes "vendor" ∷ encode_lower header.vendor.0 ∷ codes "prefix" ∷ encode_lower header.prefix.0 ∷ [])

-- the last line of a datagram that is refused, else nothing
abbrev pub ending_text : Option Refusal → List ℕ
ending_text None = []
ending_text (Some refusal) = refusal_line refusal

-- the lines of items and of the refusal that ends them, if one does, from a state on
abbrev pub outcomes_text : (ℕ → Option FragmentsValue) → State → List reading.Outcome → List ℕ
outcomes_text fragments state outcomes = acts.gathered (shown_line fragments) state [] (reading.items_among outcomes) ++ ending_text (reading.refusal_among outcomes)

-- the lines of items behind a header; none where there is no header
abbrev pub items_text : (ℕ → Option FragmentsValue) → Option Header → List values.ItemValue → List ℕ
items_text fragments None items = []
items_text fragments (Some header) items = acts.gathered (shown_line fragments) (acts.state_at_start header) [] items

-- the lines of a datagram of this number that is read so: its own, one for each item, in the state behind all items
-- before it, and that of its refusal, if it has one
abbrev pub reading_text : (ℕ → Option FragmentsValue) → ℕ → message.Reading → List ℕ
reading_text fragments number reading =
    datagram_line number reading.header ++ (items_text fragments reading.header reading.items ++ ending_text reading.ending)

-- the lines of a datagram of this number
abbrev pub datagram_text : Fragments → ℕ → List ℕ → List ℕ
datagram_text choice number datagram = reading_text (fragments_at choice datagram) number (reading.reading_of datagram)

-- the lines of datagrams in their order, of which the first has this number
unfoldable pub text_from : Fragments → ℕ → List (List ℕ) → List ℕ
text_from choice number datagrams = flat_map (λ row. datagram_text choice row.0 row.1) (enumerate_from number datagrams)

-- what `show` prints
abbrev pub show_text : Fragments → List (List ℕ) → List ℕ
show_text choice datagrams = text_from choice 1 datagrams

-- what `show` answers: its text, and it is clean
abbrev pub IsShownWith : Fragments → recording.RecordingValue → List ℕ → Ending → Type 0
IsShownWith choice recording text ending = (text ≡ show_text choice recording.datagrams) × (ending ≡ Ending.Clean)

-- what it answers where fragments are not read
abbrev pub IsShown : recording.RecordingValue → List ℕ → Ending → Type 0
IsShown = IsShownWith Fragments.Skipped

-- ---- what holds of it

-- no submessage of these datagrams is a DATA_FRAG or a NACK_FRAG that can be used
abbrev pub HasNoFragments : List (List ℕ) → Type 0
HasNoFragments datagrams = All (λ datagram. All (λ item. said_at (drop item.at datagram) ≡ None) (reading.reading_of datagram).items) datagrams

-- Of such datagrams `show` prints the same, whether fragments are read or not. own: an option must change nothing where there is
-- nothing of what it asks for.
abbrev pub ShowsTheSameWithoutFragments : Type 0
ShowsTheSameWithoutFragments = (datagrams : List (List ℕ)) → HasNoFragments datagrams → show_text Fragments.Read datagrams ≡ show_text Fragments.Skipped datagrams
