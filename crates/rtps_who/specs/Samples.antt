-- Which nodes of ROS 2 a participant has, and which endpoints each of them has, as it tells by samples of `ros_discovery_info`.
-- DDSI-RTPS 2.5, 10.2 "RTPS Serialized Payload" (CDR: numbers and texts begin at multiples of four octets, counted behind the representation).
-- own: a sample is
--     gid of the participant, u32 nodes, and each node: text namespace, text name, u32 readers, a gid each, u32 writers, a gid each,
-- and at most 3 octets of padding. A gid is a GUID, with 8 zeros behind it in the wider form. One that is of another form is as if absent.
use Rattle.std.specs.Prelude.{ℕ, ◌≡◌, ◌&&◌, Bool, true, if◌then◌else◌, List, [], ◌++◌, Option, Some, None, codes, drop, find, length, map, nat_eq, nat_le, take}
use Rattle.std.specs.Cmp.Lexicographic.{pointwise}
use Rattle.std.specs.List.{ends_with}
use Rattle.std.specs.Option.{option_map}
use Rattle.rtps_ids.specs.declared.identity.Guid.{Guid}
use Rattle.rtps_ids.specs.declared.order.Order.{Order}
use Rattle.rtps_params.specs.Values as values
use Rattle.rtps_who.specs.Items as items
use Rattle.rtps_who.specs.Steps.{◌>>=◌}
use Rattle.rtps_who.specs.Texts as texts
use Rattle.rtps_who.specs.declared.entry.Entry.{Entry}
use Rattle.rtps_who.specs.declared.gids.Gids.{Gids}
use Rattle.rtps_who.specs.declared.gids.Width.{Width}
use Rattle.rtps_who.specs.declared.layout.gid.TheConstants as gid
use Rattle.rtps_who.specs.declared.layout.header.TheConstants as header
use Rattle.rtps_who.specs.declared.layout.sequence.TheConstants as sequence
use Rattle.rtps_who.specs.declared.node.Node.{Node}
use Rattle.rtps_who.specs.declared.sample.Sample.{Sample}

-- ---- gids

-- the size of a gid
abbrev pub size_of : Width → ℕ
size_of Width.Narrow = gid.GUID_SIZE
size_of Width.Wide = gid.WIDE_SIZE

-- what is behind the GUID of a gid is as it has to be
abbrev pub is_filled : Width → List ℕ → Bool
is_filled Width.Narrow octets = true
is_filled Width.Wide octets = pointwise nat_eq (take 8 (drop gid.GUID_SIZE octets)) gid.ZEROS

-- the gid at the beginning
abbrev pub front_gid : Width → List ℕ → Option (Guid × List ℕ)
front_gid width octets =
    if nat_le (size_of width) (length octets) && is_filled width octets then option_map (λ guid. (guid, drop (size_of width) octets)) (values.guid_of octets) else None

-- a list of gids at the beginning
abbrev pub front_gids : Order → Width → List ℕ → Option (List Guid × List ℕ)
front_gids order width octets = do
  count ← values.u32_of order octets
  items.all_in (front_gid width) count (drop sequence.COUNT_SIZE octets)

-- the gids of a list of the code
abbrev pub gids_value : Gids → List Guid
gids_value gids = items.items_in (front_gid gids.width) gids.count gids.octets.now

-- ---- nodes

-- a node's namespace and name
pub record NodeValue : Type 0 where
  pub namespace : List ℕ
  pub name : List ℕ

-- a node, and the endpoints that it has
pub record EntryValue : Type 0 where
  pub node : NodeValue
  pub readers : List Guid
  pub writers : List Guid

-- what a node of the code stands for
abbrev pub node_value : Node → NodeValue
node_value node = record { namespace = node.namespace.now; name = node.name.now }

-- what an entry of the code stands for
abbrev pub entry_value : Entry → EntryValue
entry_value entry = record { node = node_value entry.node; readers = gids_value entry.readers; writers = gids_value entry.writers }

-- the node at the beginning
abbrev pub front_entry : Order → Width → List ℕ → Option (EntryValue × List ℕ)
front_entry order width octets = do
  namespace ← texts.front_text order octets
  name ← texts.front_text order namespace.1
  readers ← front_gids order width name.1
  writers ← front_gids order width readers.1
  Some (record { node = record { namespace = namespace.0; name = name.0 }; readers = readers.0; writers = writers.0 }, writers.1)

-- its name with its namespace: a slash between the two, unless the namespace ends with one
abbrev pub full_name : NodeValue → List ℕ
full_name node = node.namespace ++ ((if ends_with nat_eq node.namespace (codes "/") then [] else codes "/") ++ node.name)

-- ---- samples

-- the nodes that a sample tells, how many they are, and the one that is alone
pub record SampleValue : Type 0 where
  pub count : ℕ
  pub entries : List EntryValue
  pub only : Option NodeValue

-- the node of entries, where there is one alone
abbrev pub only_among : ℕ → List EntryValue → Option NodeValue
only_among count entries = if nat_eq count 1 then option_map (λ entry. entry.node) (find (λ entry. true) entries) else None

-- what a sample of the code stands for
abbrev pub sample_value : Sample → SampleValue
sample_value sample =
    record {
      count = sample.count;
      entries = items.items_in (front_entry sample.order sample.width) sample.count sample.octets.now;
      only = option_map node_value sample.only;
    }

-- the order of a value whose representation has this id
abbrev pub order_of_id : List ℕ → Option Order
order_of_id id = if pointwise nat_eq id header.CDR_BE then Some Order.Big else if pointwise nat_eq id header.CDR_LE then Some Order.Little else None

-- the order of a payload
abbrev pub order_in : List ℕ → Option Order
order_in payload = if nat_le header.SIZE (length payload) then order_of_id (take header.ID_SIZE payload) else None

-- the form of its gids: the wider one where there is room for it, and what is behind the first GUID are zeros
abbrev pub width_of : List ℕ → Width
width_of body = if nat_le gid.WIDE_ROOM (length body) && is_filled Width.Wide body then Width.Wide else Width.Narrow

-- the nodes in what is behind a participant's gid
abbrev pub nodes_in : Order → Width → List ℕ → Option SampleValue
nodes_in order width octets = do
  count ← values.u32_of order octets
  all ← items.all_in (front_entry order width) count (drop sequence.COUNT_SIZE octets)
  if nat_le (length all.1) gid.PADDING then Some (record { count = count; entries = all.0; only = only_among count all.0 }) else None

-- the nodes that a body tells
abbrev pub nodes_of : Order → List ℕ → Option SampleValue
nodes_of order body = nodes_in order (width_of body) (drop (size_of (width_of body)) body)

-- the nodes that a payload tells
abbrev pub sample_of : List ℕ → Option SampleValue
sample_of payload = do
  order ← order_in payload
  nodes_of order (drop header.SIZE payload)

-- all its nodes
abbrev pub nodes_among : SampleValue → List NodeValue
nodes_among sample = map (λ entry. entry.node) sample.entries

-- a sample that can be read has as many nodes as it says
abbrev pub SamplesHaveTheirNodes : Type 0
SamplesHaveTheirNodes = (payload : List ℕ) (sample : SampleValue) → sample_of payload ≡ Some sample → length sample.entries ≡ sample.count
