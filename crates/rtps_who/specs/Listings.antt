-- Which endpoints nodes list. own: a participant tells of its own endpoints alone, and the node that listed one last has it, also where it
-- lists nothing any more: it has ended, and its endpoints are of no other node.
use Rattle.std.specs.Prelude.{◌≡◌, List, ◌++◌, Option, filter, flat_map, map, reverse}
use Rattle.std.specs.BTreeMap.{is_at}
use Rattle.std.specs.Map.{lookup}
use Rattle.std.specs.Option.{option_map, option_or}
use Rattle.rtps_ids.specs.declared.identity.Guid.{Guid}
use Rattle.rtps_ids.specs.declared.identity.GuidPrefix.{GuidPrefix}
use Rattle.rtps_receiver.specs.Speech as speech
use Rattle.rtps_discovery.specs.GuidOrder as guid_order
use Rattle.rtps_who.specs.Samples as samples
use Rattle.rtps_who.specs.declared.node.Node.{Node}

-- the endpoints of a participant among these, and the node that has them
abbrev pub listings_of : GuidPrefix → samples.NodeValue → List Guid → List (Guid × samples.NodeValue)
listings_of prefix node guids = map (λ guid. (guid, node)) (filter (λ guid. speech.is_prefix guid.prefix prefix) guids)

-- those that a node lists, its readers first
abbrev pub listings_by : GuidPrefix → samples.EntryValue → List (Guid × samples.NodeValue)
listings_by prefix entry = listings_of prefix entry.node entry.readers ++ listings_of prefix entry.node entry.writers

-- those that the nodes of a sample list
abbrev pub listings_in : GuidPrefix → samples.SampleValue → List (Guid × samples.NodeValue)
listings_in prefix sample = flat_map (listings_by prefix) sample.entries

-- those that samples list, each of a participant
abbrev pub listings_among : List (GuidPrefix × samples.SampleValue) → List (Guid × samples.NodeValue)
listings_among samples = flat_map (λ told. listings_in told.0 told.1) samples

-- the node that an endpoint is listed with last
abbrev pub last_listed : Guid → List (Guid × samples.NodeValue) → Option samples.NodeValue
last_listed guid listings = lookup (is_at (guid_order.guid_cmp guid)) (reverse listings)

-- what is kept after these
abbrev pub Lists : List (Guid × Node) → List (Guid × Node) → List (Guid × samples.NodeValue) → Type 0
Lists old new listings =
    (guid : Guid) → option_map samples.node_value (lookup (is_at (guid_order.guid_cmp guid)) new)
    ≡ option_or (last_listed guid listings) (option_map samples.node_value (lookup (is_at (guid_order.guid_cmp guid)) old))
