-- What the fields of a directory stand for.
-- own: it keeps no copy of what was announced.
use Rattle.std.specs.Prelude.{◌≡◌, ◌≢◌, ◌⊎◌, if◌then◌else◌, List, map, Option, Some, None}
use Rattle.rtps_ids.specs.declared.identity.Guid.{Guid}
use Rattle.rtps_discovery.specs.Directory as directory
use Rattle.rtps_discovery.specs.Endpoint as endpoint
use Rattle.rtps_discovery.specs.declared.kept.Kept.{Kept}

-- the endpoint, or None if its announcements disagree
abbrev pub kept_value : Kept → Option endpoint.EndpointValue
kept_value kept = if kept.settled then Some (endpoint.endpoint_value kept.endpoint) else None

-- the directory that these kept entries stand for
abbrev pub entries_value : List (Guid × Kept) → directory.Entries
entries_value entries = map (λ entry. (entry.0, kept_value entry.1)) entries

-- the entry of a GUID after one more announcement of it
abbrev pub IsJoined : Option (Option endpoint.EndpointValue) → endpoint.EndpointValue → Option endpoint.EndpointValue → Type 0
IsJoined None endpoint joined = joined ≡ Some endpoint
IsJoined (Some None) endpoint joined = joined ≡ None
IsJoined (Some (Some kept)) endpoint joined = ((kept ≡ endpoint) × (joined ≡ Some endpoint)) ⊎ ((kept ≢ endpoint) × (joined ≡ None))
