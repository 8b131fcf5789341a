-- What a writer and a reader said in a recording, or in its first datagrams. own: what stands behind the datagram in which a reader leaves
-- is as if it were not recorded, so that a verdict by the datagrams before it is that of a recording that ends there.
use Rattle.std.specs.Prelude.{ℕ, ◌-◌, ◌≡◌, filter, map, take, List, Option, Some, None}
use Rattle.rtps_discovery.specs.declared.matching.Pair.{Pair}
use Rattle.rtps_receiver.specs.Values as values
use Rattle.rtps_audit.specs.Placed as placed
use Rattle.rtps_audit.specs.Speech as speech
use Rattle.rtps_audit.specs.declared.said_between.Said.{Said}

-- the datagrams before this one, which is counted from 1; all, where there is none
abbrev pub datagrams_until : {X : Type 0} → Option ℕ → List X → List X
datagrams_until None recording = recording
datagrams_until (Some datagram) recording = take (datagram - 1) recording

-- it is what the pair said in this recording: the acts of its writer, the answers, and the acts of its reader
pub record IsSaid (pair : Pair) (recording : List (List values.ActValue)) (said : Said) : Type 0 where
  pub acts : map placed.placed_value said.acts.now ≡ filter (placed.is_from pair.writer) (placed.placed_in recording)
  pub answers : said.answers.now ≡ placed.answers_among pair (placed.placed_in recording)
  pub asks : map placed.placed_value said.asks.now ≡ filter (placed.is_from pair.reader) (placed.placed_in recording)

-- the first datagrams say what they say in the whole recording, which is the octets of its datagrams in the order of sending
abbrev pub FirstDatagramsSayTheSame : Type 0
FirstDatagramsSayTheSame = (until : Option ℕ) (recording : List (List ℕ)) → speech.acts_by_datagram (datagrams_until until recording) ≡ datagrams_until until (speech.acts_by_datagram recording)
