-- What an index takes in of the datagrams of a recording. own: what a verdict needs of a datagram is its acts, wherever they
-- come from; the octets of the datagrams are one such source.
use Rattle.std.specs.Prelude.{ℕ, List, [], ◌∷◌, ◌++◌, flat_map, map}
use Rattle.rtps_wire.specs.Reading as reading
use Rattle.rtps_wire.specs.Tally as tally
use Rattle.rtps_wire.specs.declared.counts.Tally.{Tally}
use Rattle.rtps_receiver.specs.Values as values
use Rattle.rtps_audit.specs.Speech as speech

-- of each datagram in the order of sending: its tally, the acts that verdicts are by, and the acts of which a directory notes
-- what they announce. Of a recording of octets both are all acts of the datagram
pub record Intake : Type 0 where
  pub tallies : List Tally
  pub acts : List (List values.ActValue)
  pub announcing : List (List values.ActValue)

-- the acts of all datagrams
abbrev pub acts_together : List (List values.ActValue) → List values.ActValue
acts_together recording = flat_map (λ acts. acts) recording

-- no datagram
abbrev pub no_intake : Intake
no_intake = record { tallies = []; acts = []; announcing = [] }

-- one datagram more
abbrev pub intake_more : Intake → Tally → List values.ActValue → List values.ActValue → Intake
intake_more intake tally acts announcing =
    record { tallies = intake.tallies ++ tally ∷ []; acts = intake.acts ++ acts ∷ []; announcing = intake.announcing ++ announcing ∷ [] }

-- that of a recording, which is the octets of its datagrams in the order of sending
abbrev pub intake_of : List (List ℕ) → Intake
intake_of recording =
    record {
      tallies = map (λ datagram. tally.tally_of (reading.reading_of datagram)) recording;
      acts = speech.acts_by_datagram recording;
      announcing = speech.acts_by_datagram recording;
    }
