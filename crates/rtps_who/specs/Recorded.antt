-- What is kept of a recording. own: whoever holds the recording tells its acts one by one, those that announce first.
use Rattle.std.specs.Prelude.{if◌then◌else◌, List, Option}
use Rattle.std.specs.Option.{option_or}
use Rattle.rtps_ids.specs.declared.identity.Guid.{Guid}
use Rattle.rtps_ids.specs.declared.identity.GuidPrefix.{GuidPrefix}
use Rattle.rtps_receiver.specs.Speech as speech
use Rattle.rtps_policies.specs.Announcing as announcing
use Rattle.rtps_who.specs.Introducing as introducing
use Rattle.rtps_who.specs.Naming as naming
use Rattle.rtps_who.specs.Processes as processes
use Rattle.rtps_who.specs.Samples as samples
use Rattle.rtps_who.specs.Telling as telling
use Rattle.rtps_who.specs.declared.who.Who.{Who}

-- what is kept is what the acts of this recording announce and tell
pub record IsWhoIn (recorded : naming.Recorded) (who : Who) : Type 0 where
  pub introductions : introducing.IsIntroducedBy recorded.announcing who.introductions
  pub told : telling.IsToldBy recorded.announcing recorded.acts who.told

-- ---- the same by what is kept

-- the process of a participant
abbrev pub process_in : Who → GuidPrefix → processes.ProcessValue
process_in who prefix = introducing.process_kept who.introductions (announcing.participant_of prefix)

-- the node of a participant that has one alone
abbrev pub only_in : Who → GuidPrefix → Option samples.NodeValue
only_in who prefix = naming.only_by (telling.sample_kept who.told prefix) (introducing.services_kept who.introductions prefix)

-- the nodes of a participant
abbrev pub nodes_in : Who → GuidPrefix → List samples.NodeValue
nodes_in who prefix = naming.all_by (telling.sample_kept who.told prefix) (introducing.services_kept who.introductions prefix)

-- the node of an endpoint
abbrev pub node_in : Who → Guid → Option samples.NodeValue
node_in who guid = option_or (telling.listing_kept who.told guid) (only_in who guid.prefix)

-- the node of an end
abbrev pub node_of_end_in : Who → Guid → Option samples.NodeValue
node_of_end_in who guid = if speech.is_entity guid.entity (announcing.participant_of guid.prefix).entity then only_in who guid.prefix else node_in who guid
