-- The acts that are read of a recording, datagram by datagram. own: where samples in fragments are read, fragments are acts too.
use Rattle.std.specs.Prelude.{ℕ, List, flat_map, map, Option}
use Rattle.std.specs.List.{enumerate_from}
use Rattle.rtps_receiver.specs.Values as values
use Rattle.rtps_evidence.specs.Times as times_spec
use Rattle.rtps_fragments.specs.FragmentWalk as fragment_walk
use Rattle.rtps_known.specs.Tellings as tellings

-- those of a datagram
abbrev pub acts_read_in : List ℕ → List values.ActValue
acts_read_in datagram = map (λ one. one.act) (fragment_walk.piece_acts_of datagram)

-- those of each datagram of a recording
abbrev pub datagrams_read : List (List ℕ) → List (List values.ActValue)
datagrams_read recording = map acts_read_in recording

-- acts of a datagram that came then
abbrev pub acts_at : Option ℕ → List values.ActValue → List tellings.TimedAct
acts_at time acts = map (λ act. record { act = act; time = time }) acts

-- those of a datagram with its number, where datagrams came then
abbrev pub acts_timed : List (Option ℕ) → ℕ × List ℕ → List tellings.TimedAct
acts_timed times row = acts_at (times_spec.time_of times row.0) (acts_read_in row.1)

-- all acts of a recording, each with the time of its datagram
abbrev pub timed_acts : List (List ℕ) → List (Option ℕ) → List tellings.TimedAct
timed_acts recording times = flat_map (acts_timed times) (enumerate_from 1 recording)
