-- The acts by which it is told when writers and readers matched, each in its place. DDSI-RTPS 2.5, 8.5.4 "The Simple Endpoint Discovery Protocol" and
-- 8.3.8.3 "DataFrag". own: a sample of a built-in writer that is put together stands behind the DATA_FRAG that completes it, as a DATA for those
-- to whom that is sent.
use Rattle.std.specs.Prelude.{ℕ, ◌==◌, ◌&&◌, Bool, if◌then◌else◌, List, [], ◌∷◌, filter, flat_map, map, Option}
use Rattle.std.specs.List.{enumerate_from}
use Rattle.rtps_receiver.specs.Values as values
use Rattle.rtps_audit.specs.Placed as placed
use Rattle.rtps_evidence.specs.Times as times_spec
use Rattle.rtps_evidence.specs.UnansweredLaw as unanswered_law
use Rattle.rtps_known.specs.Places as places
use Rattle.rtps_report.specs.ActsRead as acts_read
use Rattle.rtps_report.specs.declared.acquaintance.Came.{Came}

-- an act of a datagram that came so
abbrev pub act_placed : Came → values.ActValue → places.PlacedAct
act_placed came act = record { act = act; place = record { datagram = came.datagram; at = act.at; time = came.time } }

-- an act stands at this place of a datagram
abbrev pub stands_at : ℕ → ℕ → placed.PlacedValue → Bool
stands_at datagram at placed = (placed.datagram == datagram) && (placed.act.at == at)

-- a sample, for those to whom the act is sent that completes it
abbrev pub sent_as : values.ActValue → values.ActValue → values.ActValue
sent_as act sample = record sample { dest = act.dest }

-- of these DATA of built-in writers, the samples that an act completes
abbrev pub samples_by : List placed.PlacedValue → ℕ → values.ActValue → List values.ActValue
samples_by announcements datagram act =
    if unanswered_law.is_data_frag act.body then map (λ placed. sent_as act placed.act) (filter (stands_at datagram act.at) announcements) else []

-- an act, and those behind it
abbrev pub with_samples : List placed.PlacedValue → ℕ → values.ActValue → List values.ActValue
with_samples announcements datagram act = act ∷ samples_by announcements datagram act

-- the datagram of this number, where datagrams came then
abbrev pub came_as : List (Option ℕ) → ℕ → Came
came_as times datagram = record { datagram = datagram; time = times_spec.time_of times datagram }

-- acts of a datagram that came so, each with those behind it
abbrev pub acts_placed : List placed.PlacedValue → Came → List values.ActValue → List places.PlacedAct
acts_placed announcements came acts = map (act_placed came) (flat_map (with_samples announcements came.datagram) acts)

-- those of a datagram with its number, where datagrams came then
abbrev pub acts_placed_in : List placed.PlacedValue → List (Option ℕ) → ℕ × List ℕ → List places.PlacedAct
acts_placed_in announcements times row = acts_placed announcements (came_as times row.0) (acts_read.acts_read_in row.1)

-- those of a recording, of which these are the DATA of built-in writers
abbrev pub matching_acts : List placed.PlacedValue → List (List ℕ) → List (Option ℕ) → List places.PlacedAct
matching_acts announcements recording times = flat_map (acts_placed_in announcements times) (enumerate_from 1 recording)
