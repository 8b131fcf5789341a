-- What is kept says what acts do.
use Rattle.std.proofs.Common.{◌≡◌, Option, List, ap, ap₂, if◌then◌else◌, unwrap_or}
use Rattle.std.specs.Option.{option_or}
use Rattle.rtps_ids.specs.declared.identity.Guid.{Guid}
use Rattle.rtps_ids.specs.declared.identity.GuidPrefix.{GuidPrefix}
use Rattle.rtps_receiver.specs.Speech as speech
use Rattle.rtps_policies.specs.Announcing as announcing
use Rattle.rtps_who.specs.Naming as naming
use Rattle.rtps_who.specs.Processes as processes
use Rattle.rtps_who.specs.Recorded as recorded_spec
use Rattle.rtps_who.specs.Samples as samples
use Rattle.rtps_who.specs.Services as services
use Rattle.rtps_who.specs.declared.who.Who.{Who}

pub process_is : (recorded : naming.Recorded) (who : Who) → recorded_spec.IsWhoIn recorded who → (prefix : GuidPrefix) → recorded_spec.process_in who prefix ≡ naming.process_of recorded prefix
process_is recorded who is prefix = ap (λ (found : Option processes.ProcessValue). unwrap_or found processes.unknown_process) (is.introductions.processes (announcing.participant_of prefix))

pub only_is : (recorded : naming.Recorded) (who : Who) → recorded_spec.IsWhoIn recorded who → (prefix : GuidPrefix) → recorded_spec.only_in who prefix ≡ naming.only_node recorded prefix
only_is recorded who is prefix = ap₂ naming.only_by (is.told.samples prefix) (ap services.node_by (is.introductions.services prefix))

pub nodes_are : (recorded : naming.Recorded) (who : Who) → recorded_spec.IsWhoIn recorded who → (prefix : GuidPrefix) → recorded_spec.nodes_in who prefix ≡ naming.nodes_of_participant recorded prefix
nodes_are recorded who is prefix = ap₂ naming.all_by (is.told.samples prefix) (ap services.node_by (is.introductions.services prefix))

pub node_is : (recorded : naming.Recorded) (who : Who) → recorded_spec.IsWhoIn recorded who → (guid : Guid) → recorded_spec.node_in who guid ≡ naming.node_of recorded guid
node_is recorded who is guid = ap₂ option_or (is.told.listed guid) (only_is recorded who is guid.prefix)

pub end_node_is : (recorded : naming.Recorded) (who : Who) → recorded_spec.IsWhoIn recorded who → (guid : Guid) → recorded_spec.node_of_end_in who guid ≡ naming.node_of_end recorded guid
end_node_is recorded who is guid =
    ap₂ (λ (one other : Option samples.NodeValue). if speech.is_entity guid.entity (announcing.participant_of guid.prefix).entity then one else other) (only_is recorded who is guid.prefix) (node_is recorded who is guid)
