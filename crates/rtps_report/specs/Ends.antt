-- By what people know the ends of a recording. own: the samples that tell of nodes are taken writer by writer, of the writers whose
-- announcements agree, in the order of their GUIDs. A participant of ROS 2 has one such writer.
use Rattle.std.specs.Prelude.{ℕ, ◌≡◌, List, Option, filter, flat_map, map}
use Rattle.std.specs.Option.{option_map}
use Rattle.rtps_ids.specs.declared.identity.Guid.{Guid}
use Rattle.rtps_ids.specs.declared.identity.GuidPrefix.{GuidPrefix}
use Rattle.rtps_receiver.specs.Values as values
use Rattle.rtps_discovery.specs.Directory as directory
use Rattle.rtps_discovery.specs.Endpoint as endpoint
use Rattle.rtps_audit.specs.Intake as intake_spec
use Rattle.rtps_audit.specs.Placed as placed
use Rattle.rtps_fragments.specs.Hearing as hearing
use Rattle.rtps_policies.specs.Announcing as announcing
use Rattle.rtps_policies.specs.declared.announced.Announced.{Announced}
use Rattle.rtps_policies.specs.declared.host.Address.{Address}
use Rattle.rtps_who.specs.Introducing as introducing
use Rattle.rtps_who.specs.Naming as naming
use Rattle.rtps_who.specs.Processes as processes
use Rattle.rtps_who.specs.Recorded as recorded
use Rattle.rtps_who.specs.Samples as samples
use Rattle.rtps_who.specs.declared.who.Who.{Who}
use Rattle.rtps_report.specs.declared.end.End.{End}

-- the acts of a writer, and behind each the samples in fragments that it tells whoever hears all
abbrev pub acts_by : intake_spec.Intake → endpoint.EndpointValue → List values.ActValue
acts_by intake writer = map (λ placed. placed.act) (hearing.overheard_of (filter (placed.is_from writer.guid) (placed.placed_in intake.acts)))

-- those of the writers that tell of nodes, one writer after another
abbrev pub acts_told : intake_spec.Intake → directory.Entries → List values.ActValue
acts_told intake entries = flat_map (acts_by intake) (filter introducing.tells_nodes (directory.settled_in entries))

-- what a recording says of names, where these endpoints are announced
abbrev pub recorded_in : intake_spec.Intake → directory.Entries → naming.Recorded
recorded_in intake entries = record { announcing = intake_spec.acts_together intake.announcing; acts = acts_told intake entries }

-- by what an end is known: its node, its process, and the address of its participant
pub record EndValue : Type 0 where
  pub node : Option samples.NodeValue
  pub process : processes.ProcessValue
  pub address : Option Address

-- that of the code, as a value
abbrev pub end_value : End → EndValue
end_value end = record { node = option_map samples.node_value end.node; process = processes.process_value end.process; address = end.address }

-- that of a GUID in a recording
abbrev pub end_of : naming.Recorded → Guid → EndValue
end_of recorded guid =
    record { node = naming.node_of_end recorded guid; process = naming.process_of recorded guid.prefix; address = (announcing.host_of recorded.announcing guid.prefix).address }

-- the same by what is kept
abbrev pub end_kept : Who → Announced → Guid → EndValue
end_kept who announced guid = record { node = recorded.node_of_end_in who guid; process = recorded.process_in who guid.prefix; address = (announcing.hosts_in announced guid.prefix).address }
