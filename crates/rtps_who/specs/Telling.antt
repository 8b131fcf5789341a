-- What the samples of participants tell of their nodes. DDSI-RTPS 2.5, 8.3.8.2 "Data" and 8.3.8.3 "DataFrag". own: the last sample of a recording
-- that can be read counts, of a writer that tells of nodes and has the prefix of the participant. A sample in fragments stands where it is told
-- whole.
use Rattle.std.specs.Prelude.{ℕ, ◌≡◌, if◌then◌else◌, List, Option, None, option_and_then, reverse}
use Rattle.std.specs.BTreeMap.{is_at}
use Rattle.std.specs.List.{filter_map}
use Rattle.std.specs.Map.{lookup}
use Rattle.std.specs.Option.{option_map}
use Rattle.rtps_ids.specs.declared.identity.EntityId.{EntityId}
use Rattle.rtps_ids.specs.declared.identity.Guid.{Guid}
use Rattle.rtps_ids.specs.declared.identity.GuidPrefix.{GuidPrefix}
use Rattle.rtps_receiver.specs.Values as values
use Rattle.rtps_discovery.specs.GuidOrder as guid_order
use Rattle.rtps_discovery.specs.Notice as notice
use Rattle.rtps_who.specs.Introducing as introducing
use Rattle.rtps_who.specs.Listings as listings
use Rattle.rtps_who.specs.Samples as samples
use Rattle.rtps_who.specs.declared.told_nodes.ToldNodes.{ToldNodes}

-- a sample, with the entity of its writer
abbrev pub sent_by : EntityId → Option (List ℕ) → Option (EntityId × List ℕ)
sent_by writer sample = option_map (λ octets. (writer, octets)) sample

-- the sample that an act has
abbrev pub sent_in : values.ActBodyValue → Option (EntityId × List ℕ)
sent_in (values.ActBodyValue.Data value) = sent_by value.writer (notice.whole_payload value.payload)
sent_in (values.ActBodyValue.DataFrag value) = sent_by value.writer (option_and_then notice.whole_payload value.told)
sent_in _ = None

-- the writer of an act
abbrev pub writer_of : GuidPrefix → EntityId → Guid
writer_of source entity = record { prefix = source; entity = entity }

-- the nodes that a sample of this participant tells, if its writer is one that tells of nodes
abbrev pub nodes_sent : List values.ActValue → GuidPrefix → EntityId × List ℕ → Option (GuidPrefix × samples.SampleValue)
nodes_sent announcing source sent =
    if introducing.is_teller_among announcing (writer_of source sent.0) then option_map (λ sample. (source, sample)) (samples.sample_of sent.1) else None

-- the participant whose nodes an act tells, and those nodes
abbrev pub nodes_told : List values.ActValue → values.ActValue → Option (GuidPrefix × samples.SampleValue)
nodes_told announcing act = option_and_then (nodes_sent announcing act.source) (sent_in act.body)

-- what is told last of a prefix
abbrev pub last_of : {X : Type 0} → GuidPrefix → List (GuidPrefix × X) → Option X
last_of prefix told = lookup (is_at (introducing.prefix_cmp prefix)) (reverse told)

-- the nodes that acts tell last of a participant
abbrev pub nodes_by : List values.ActValue → List values.ActValue → GuidPrefix → Option samples.SampleValue
nodes_by announcing acts prefix = last_of prefix (filter_map (nodes_told announcing) acts)

-- the node that acts tell last to have an endpoint
abbrev pub listed_by : List values.ActValue → List values.ActValue → Guid → Option samples.NodeValue
listed_by announcing acts guid = listings.last_listed guid (listings.listings_among (filter_map (nodes_told announcing) acts))

-- the sample of a participant as it is kept
abbrev pub sample_kept : ToldNodes → GuidPrefix → Option samples.SampleValue
sample_kept told prefix = option_map samples.sample_value (lookup (is_at (introducing.prefix_cmp prefix)) told.samples.entries)

-- and the node of an endpoint
abbrev pub listing_kept : ToldNodes → Guid → Option samples.NodeValue
listing_kept told guid = option_map samples.node_value (lookup (is_at (guid_order.guid_cmp guid)) told.listed.entries)

-- what is kept is what these acts tell last, where those announce
pub record IsToldBy (announcing acts : List values.ActValue) (told : ToldNodes) : Type 0 where
  pub samples : (prefix : GuidPrefix) → sample_kept told prefix ≡ nodes_by announcing acts prefix
  pub listed : (guid : Guid) → listing_kept told guid ≡ listed_by announcing acts guid
