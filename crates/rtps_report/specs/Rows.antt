-- Which rows of a report are kept. DDSI-RTPS 2.5, 8.3.8.8 "InfoDestination", for whom an act names. own: where a reader's participant
-- never names the writer's, their datagrams took another way, and a recording can say nothing of the two.
use Rattle.std.specs.Prelude.{ℕ, ◌≡◌, Bool, false, ◌==◌, ◌&&◌, ◌||◌, nat_lt, List, Option, Some, None, length}
use Rattle.std.specs.List.{list_any}
use Rattle.rtps_receiver.specs.Values as values
use Rattle.rtps_discovery.specs.declared.matching.Pair.{Pair}
use Rattle.rtps_parts.specs.RosNames as ros_names
use Rattle.rtps_policies.specs.Namings as namings_spec
use Rattle.rtps_policies.specs.declared.naming.Naming.{Naming}
use Rattle.rtps_policies.specs.declared.naming.Namings.{Namings}
use Rattle.rtps_ids.specs.declared.identity.Guid.{Guid}
use Rattle.rtps_who.specs.Samples as samples
use Rattle.rtps_report.specs.Asked as asked
use Rattle.rtps_report.specs.Patterns as patterns_spec

-- those participants are counted that name one another in these acts
abbrev pub AreNamedIn : List values.ActValue → Namings → Type 0
AreNamedIn acts namings = (naming : Naming) → nat_lt 0 (namings_spec.named_by namings naming) ≡ list_any (namings_spec.names naming) acts

-- the reader's participant names the writer's, by what is kept
abbrev pub is_named_by : Namings → Pair → Bool
is_named_by namings pair = nat_lt 0 (namings_spec.named_by namings (record { source = pair.reader.prefix; dest = pair.writer.prefix }))

-- an act of the reader's participant, of whatever writer or reader of it, names the writer's as its destination
abbrev pub is_observed : List values.ActValue → Pair → Bool
is_observed acts pair = list_any (namings_spec.names (record { source = pair.reader.prefix; dest = pair.writer.prefix })) acts

-- the name of a topic fits a pattern, or the name that ROS 2 gives it
abbrev pub fits_topic : List ℕ → List ℕ → Bool
fits_topic pattern topic = patterns_spec.fits pattern topic || patterns_spec.fits pattern (ros_names.ros_topic topic)

-- a topic fits one of the patterns, or there is none
abbrev pub fits_one : List (List ℕ) → List ℕ → Bool
fits_one patterns topic = (length patterns == 0) || list_any (λ pattern. fits_topic pattern topic) patterns

-- an end has a node whose name fits one of these patterns
abbrev pub has_node : List (List ℕ) → Option samples.NodeValue → Bool
has_node patterns None = false
has_node patterns (Some node) = list_any (λ pattern. patterns_spec.fits pattern (samples.full_name node)) patterns

-- one of two nodes is asked for, or any is
abbrev pub is_node_asked : List (List ℕ) → (writer reader : Option samples.NodeValue) → Bool
is_node_asked patterns writer reader = (length patterns == 0) || (has_node patterns writer || has_node patterns reader)

-- which pairs of which topics are asked for
abbrev pub Choice : Type 0
Choice = List ℕ → Pair → Bool

-- a pair is asked for: its topic is, and one of its nodes, where these are the nodes of endpoints
abbrev pub chosen_by : asked.AskedValue → (Guid → Option samples.NodeValue) → Choice
chosen_by asked nodes topic pair = fits_one asked.topics topic && is_node_asked asked.nodes (nodes pair.writer) (nodes pair.reader)
