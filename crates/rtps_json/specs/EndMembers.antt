-- What is known of ends, as members of objects. own: what is not known is null, so that each object has the same members.
use Rattle.std.specs.Prelude.{ℕ, List, [], ◌∷◌, Option, Some, None, codes, map}
use Rattle.json.specs.Json.{Json, null}
use Rattle.rtps_who.specs.Processes as processes
use Rattle.rtps_who.specs.Samples as samples
use Rattle.rtps_json.specs.JsonText as json_text

-- octets that are known, as names are written; null where they are not
abbrev pub known_json : Option (List ℕ) → Json
known_json None = null
known_json (Some octets) = json_text.name_json octets

-- a process
abbrev pub process_members : processes.ProcessValue → List json_text.Member
process_members process =
    (codes "host", known_json process.host) ∷ (codes "process", known_json process.program) ∷ (codes "pid", json_text.until_json process.pid)
    ∷ (codes "name", known_json process.name) ∷ (codes "enclave", known_json process.enclave) ∷ []

-- nodes
abbrev pub nodes_member : List samples.NodeValue → json_text.Member
nodes_member nodes = (codes "nodes", json_text.array_of (map json_text.node_json nodes))
