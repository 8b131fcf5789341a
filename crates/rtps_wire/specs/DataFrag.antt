-- DATA_FRAG: consecutive fragments of a sample. DDSI-RTPS 2.5, 8.3.8.3 "DataFrag" and 9.4.5.5 "DataFrag Submessage".
-- own: if its body breaks a rule (8.3.8.3.3 "Validity" and those below), it has no fault, but no fragments that can be used either. It is
-- skipped then.
use Rattle.std.specs.Prelude.{ℕ, zero, suc, ℤ, ◌≡◌, ◌<◌, ◌≤◌, ◌+◌, ◌-◌, ◌*◌, ◌/◌, ◌==◌, ◌&&◌, bit_and, not, min, pos, int_lt, nat_le, Bool, List, [], ◌∷◌, length, take, drop, is_err, Option, Some, None, if◌then◌else◌}
use Rattle.std.specs.Int.RustNames.{unsigned_abs}
use Rattle.std.specs.Option.{option_map}
use Rattle.rtps_ids.specs.Octets as octets
use Rattle.rtps_ids.specs.declared.identity.EntityId.{EntityId}
use Rattle.rtps_ids.specs.declared.order.Order.{Order}
use Rattle.rtps_params.specs.Reading as reading
use Rattle.rtps_params.specs.Lists as lists
use Rattle.rtps_wire.specs.Data as data_spec
use Rattle.rtps_wire.specs.Fields as fields
use Rattle.rtps_wire.specs.Message as message
use Rattle.rtps_wire.specs.Skipped as skipped
use Rattle.rtps_wire.specs.declared.data_frag.DataFrag.{DataFrag}
use Rattle.rtps_wire.specs.declared.data_frag.Shape.{Shape}
use Rattle.rtps_wire.specs.declared.layout.data.TheConstants as data_layout
use Rattle.rtps_wire.specs.declared.layout.data_frag.TheConstants as data_frag
use Rattle.rtps_wire.specs.declared.layout.id.TheConstants as id

-- ---- the fragments of a sample

-- the number of its last fragment. Fragments count from 1
abbrev pub last_fragment : Shape → ℕ
last_fragment shape = (shape.sample + shape.fragment - 1) / shape.fragment

-- how many octets the fragments from the fragment `first` to the fragment `last` have. Each has the size of a fragment, but
-- the last one of a sample may be shorter
abbrev pub fragments_length : Shape → ℕ → ℕ → ℕ
fragments_length shape first last = min shape.sample (last * shape.fragment) - (first - 1) * shape.fragment

-- how many octets one fragment has
abbrev pub fragment_length : Shape → ℕ → ℕ
fragment_length shape i = fragments_length shape i i

-- These octets begin with so many fragments of a sample of this shape, from the fragment `first` on. There is at least one, none is greater
-- than the sample, and the octets are at most what so many whole fragments have (8.3.8.3.3).
abbrev pub begins_with_fragments : Shape → ℕ → ℕ → List ℕ → Bool
begins_with_fragments shape first count octets =
    nat_le 1 shape.fragment
    && nat_le shape.fragment shape.sample
    && nat_le 1 first
    && nat_le 1 count
    && nat_le (first + count - 1) (last_fragment shape)
    && nat_le (fragments_length shape first (first + count - 1)) (length octets)
    && nat_le (length octets) (count * shape.fragment)

-- ---- the fields of a body. extraFlags, octetsToInlineQos and the inline QoS are as in a DATA, and so are the flags Q and N

-- writerSN: the number of the sample
abbrev pub sample_number : Order → List ℕ → ℤ
sample_number order body = octets.sequence_number_of order (drop data_frag.NUMBER body)

-- fragmentStartingNum: the number of the first of these fragments
abbrev pub starting_number : Order → List ℕ → ℕ
starting_number order body = octets.number_of order 4 (drop data_frag.FIRST body)

-- fragmentsInSubmessage: how many fragments there are
abbrev pub fragment_count : Order → List ℕ → ℕ
fragment_count order body = octets.number_of order 2 (drop data_frag.COUNT body)

-- sampleSize, fragmentSize, and flag K: the sample is a key
abbrev pub spelled_shape : Order → ℕ → List ℕ → Shape
spelled_shape order flags body =
    record { sample = octets.number_of order 4 (drop data_frag.SAMPLE body); fragment = octets.number_of order 2 (drop data_frag.FRAGMENT body); is_key = not (bit_and flags data_frag.K == 0) }

-- how many octets the fragments have
abbrev pub spelled_length : Order → ℕ → List ℕ → ℕ
spelled_length order flags body =
    fragments_length (spelled_shape order flags body) (starting_number order body) (starting_number order body + fragment_count order body - 1)

-- the octets behind the inline QoS
abbrev pub octets_behind : Order → ℕ → List ℕ → List ℕ
octets_behind order flags body = data_spec.behind_qos order flags (data_spec.behind_fields order body)

-- Whether a body has fragments that can be used: it has all fields; octetsToInlineQos points behind them and into the body;
-- writerSN is a sequence number; there is an inline QoS where flag Q says so; the fragments of the sample come behind it.
abbrev pub is_data_frag : Order → ℕ → List ℕ → Bool
is_data_frag order flags body =
    nat_le data_frag.SIZE (length body)
    && nat_le data_frag.SIZE (data_layout.QOS_FROM + data_spec.octets_to_inline_qos order body)
    && nat_le (data_layout.QOS_FROM + data_spec.octets_to_inline_qos order body) (length body)
    && int_lt (pos 0) (sample_number order body)
    && not (data_spec.has_qos flags && is_err (reading.list_end order (data_spec.behind_fields order body)))
    && begins_with_fragments (spelled_shape order flags body) (starting_number order body) (fragment_count order body) (octets_behind order flags body)

-- ---- what is read

-- fragments of a sample: their octets alone, one after another. Numbers had this order of octets
pub record DataFragValue : Type 0 where
  pub order : Order
  pub reader : EntityId
  pub writer : EntityId
  pub number : ℕ
  pub qos : Option lists.ListValue
  pub first : ℕ
  pub count : ℕ
  pub shape : Shape
  pub octets : List ℕ

-- the fragments that such a body has. own: octets behind them are ignored
abbrev pub data_frag_of : Order → ℕ → List ℕ → DataFragValue
data_frag_of order flags body =
    record {
      order = order;
      reader = fields.entity_at data_frag.READER body;
      writer = fields.entity_at data_frag.WRITER body;
      number = unsigned_abs (sample_number order body);
      qos = data_spec.qos_of order flags (data_spec.behind_fields order body);
      first = starting_number order body;
      count = fragment_count order body;
      shape = spelled_shape order flags body;
      octets = take (spelled_length order flags body) (octets_behind order flags body);
    }

-- the fragments of a body, if it has some that can be used
abbrev pub data_frag_in : Order → ℕ → List ℕ → Option DataFragValue
data_frag_in order flags body = if is_data_frag order flags body then Some (data_frag_of order flags body) else None

-- the fragments of the first submessage of these octets, if it is a DATA_FRAG without a fault and has some that can be used
unfoldable pub data_frag_at : List ℕ → Option DataFragValue
data_frag_at rest =
    if skipped.begins_with id.DATA_FRAG rest then data_frag_in (message.order_of (message.flags_of rest)) (message.flags_of rest) (message.body_octets rest) else None

-- a DATA_FRAG of the code, as a value
abbrev pub data_frag_value : DataFrag → DataFragValue
data_frag_value value =
    record {
      order = value.order;
      reader = value.reader;
      writer = value.writer;
      number = value.number;
      qos = option_map lists.list_value value.qos;
      first = value.first;
      count = value.count;
      shape = value.shape;
      octets = value.octets.now;
    }

-- What is true of all fragments that are read: the sample has them, and their octets are as many as theirs.
pub record IsDataFrag (value : DataFragValue) : Type 0 where
  pub sample : 0 < value.shape.sample
  pub fragment : 0 < value.shape.fragment
  pub first : 0 < value.first
  pub count : 0 < value.count
  pub last : value.first + value.count ≤ last_fragment value.shape + 1
  pub octets : length value.octets ≡ fragments_length value.shape value.first (value.first + value.count - 1)

-- ---- fragment by fragment

-- so many fragments of this size at the beginning of these octets. The last one may be shorter
abbrev pub parts_in : ℕ → ℕ → List ℕ → List (List ℕ)
parts_in fragment zero octets = []
parts_in fragment (suc count) octets = take fragment octets ∷ parts_in fragment count (drop fragment octets)

-- the octets of each fragment
abbrev pub parts_of : DataFragValue → List (List ℕ)
parts_of value = parts_in value.shape.fragment value.count value.octets
