-- By which name people know an end of a pair. own: its node, else the program of its process, else the name of its participant.
use Rattle.std.specs.Prelude.{ℕ, List, Option, Some, None, if◌then◌else◌, unwrap_or}
use Rattle.std.specs.Option.{option_or, option_to_list}
use Rattle.rtps_ids.specs.declared.identity.Guid.{Guid}
use Rattle.rtps_ids.specs.declared.identity.GuidPrefix.{GuidPrefix}
use Rattle.rtps_receiver.specs.Speech as speech
use Rattle.rtps_receiver.specs.Values as values
use Rattle.rtps_policies.specs.Announcing as announcing
use Rattle.rtps_who.specs.Introducing as introducing
use Rattle.rtps_who.specs.Processes as processes
use Rattle.rtps_who.specs.Samples as samples
use Rattle.rtps_who.specs.Services as services
use Rattle.rtps_who.specs.Telling as telling
use Rattle.rtps_who.specs.declared.title.Title.{Title}

-- the acts of a recording that announce, and those that may have samples
pub record Recorded : Type 0 where
  pub announcing : List values.ActValue
  pub acts : List values.ActValue

-- the process of a participant; unknown where it is not announced
abbrev pub process_of : Recorded → GuidPrefix → processes.ProcessValue
process_of recorded prefix = unwrap_or (introducing.process_among recorded.announcing (announcing.participant_of prefix)) processes.unknown_process

-- ---- nodes

-- the node of a participant that has one alone, by what its sample tells and by what its services are called
abbrev pub only_by : Option samples.SampleValue → Option samples.NodeValue → Option samples.NodeValue
only_by (Some sample) by_service = sample.only
only_by None by_service = by_service

-- the nodes of a participant
abbrev pub all_by : Option samples.SampleValue → Option samples.NodeValue → List samples.NodeValue
all_by (Some sample) by_service = samples.nodes_among sample
all_by None by_service = option_to_list by_service

-- the node that its services name
abbrev pub named_by_services : Recorded → GuidPrefix → Option samples.NodeValue
named_by_services recorded prefix = services.node_by (services.names_of (introducing.service_names recorded.announcing prefix))

-- the node of a participant that has one alone
abbrev pub only_node : Recorded → GuidPrefix → Option samples.NodeValue
only_node recorded prefix = only_by (telling.nodes_by recorded.announcing recorded.acts prefix) (named_by_services recorded prefix)

-- the nodes of a participant
abbrev pub nodes_of_participant : Recorded → GuidPrefix → List samples.NodeValue
nodes_of_participant recorded prefix = all_by (telling.nodes_by recorded.announcing recorded.acts prefix) (named_by_services recorded prefix)

-- the node that had an endpoint in its lists last
abbrev pub listing_node : Recorded → Guid → Option samples.NodeValue
listing_node recorded guid = telling.listed_by recorded.announcing recorded.acts guid

-- the node of an endpoint: the one that had it in its lists last, or else the one that its participant has alone. own: a participant of one
-- node has that node as a whole, so endpoints that no list ever had are of it, too
abbrev pub node_of : Recorded → Guid → Option samples.NodeValue
node_of recorded guid = option_or (listing_node recorded guid) (only_node recorded guid.prefix)

-- the node of an end, an endpoint or a participant: of a participant the one that it has alone
abbrev pub node_of_end : Recorded → Guid → Option samples.NodeValue
node_of_end recorded guid = if speech.is_entity guid.entity (announcing.participant_of guid.prefix).entity then only_node recorded guid.prefix else node_of recorded guid

-- ---- titles

-- by what an end is called
pub data TitleValue : Type 0 where
  OfNode : (node : samples.NodeValue) → TitleValue
  OfProgram : (program : List ℕ) → TitleValue
  OfName : (name : List ℕ) → TitleValue
  Untitled : TitleValue

-- what a title of the code stands for
abbrev pub title_value : Title → TitleValue
title_value (Title.Node node) = OfNode (samples.node_value node)
title_value (Title.Program program) = OfProgram program.now
title_value (Title.Name name) = OfName name.now
title_value Title.Nothing = Untitled

-- by the name of the participant, or nothing
abbrev pub title_by_name : Option (List ℕ) → TitleValue
title_by_name (Some name) = OfName name
title_by_name None = Untitled

-- by the program, or else by that
abbrev pub title_by_process : Option (List ℕ) → Option (List ℕ) → TitleValue
title_by_process (Some program) name = OfProgram program
title_by_process None name = title_by_name name

-- by the node, or else by that
abbrev pub title_by : Option samples.NodeValue → processes.ProcessValue → TitleValue
title_by (Some node) process = OfNode node
title_by None process = title_by_process process.program process.name

-- the title of an endpoint
abbrev pub title_of : Recorded → Guid → TitleValue
title_of recorded guid = title_by (node_of recorded guid) (process_of recorded guid.prefix)

-- the title of a participant
abbrev pub participant_title : Recorded → GuidPrefix → TitleValue
participant_title recorded prefix = title_by (only_node recorded prefix) (process_of recorded prefix)
