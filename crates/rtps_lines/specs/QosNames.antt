-- The words for what discovery announces. DDS 1.4, 2.2.3 "Supported QoS", for the names of kinds.
use Rattle.std.specs.Prelude.{ℕ, List, codes}
use Rattle.rtps_discovery.specs.declared.endpoint.Durability.{Durability}
use Rattle.rtps_discovery.specs.declared.endpoint.Reliability.{Reliability}
use Rattle.rtps_discovery.specs.declared.endpoint.Side.{Side}

-- the word for a side
unfoldable pub side_text : Side → List ℕ
side_text Side.Writer = codes "writer"
side_text Side.Reader = codes "reader"

-- the word for a reliability
unfoldable pub reliability_text : Reliability → List ℕ
reliability_text Reliability.BestEffort = codes "best-effort"
reliability_text Reliability.Reliable = codes "reliable"

-- the word for a durability
unfoldable pub durability_text : Durability → List ℕ
durability_text Durability.Volatile = codes "volatile"
durability_text Durability.TransientLocal = codes "transient-local"
durability_text Durability.Transient = codes "transient"
durability_text Durability.Persistent = codes "persistent"
