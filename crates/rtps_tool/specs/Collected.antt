-- The datagrams of a capture that were collected, one behind another. own: of a capture no more is kept than its datagrams, when each
-- came, and the number of the frame that gave it.
use Rattle.std.specs.Prelude.{ℕ, ◌≡◌, List, [], ◌∷◌, ◌++◌, map, Option}
use Rattle.rtps_capture.specs.Course as course

-- the octets of each, its time, and its frame
pub record CollectedValue : Type 0 where
  pub datagrams : List (List ℕ)
  pub times : List (Option ℕ)
  pub frames : List ℕ

-- these datagrams, in their order
abbrev pub collected_of : List course.DatagramValue → CollectedValue
collected_of datagrams = record {
  datagrams = map (λ (one : course.DatagramValue). one.octets) datagrams;
  times = map (λ (one : course.DatagramValue). one.time) datagrams;
  frames = map (λ (one : course.DatagramValue). one.frame) datagrams;
}

-- with one more behind them
abbrev pub with_one : CollectedValue → List ℕ → Option ℕ → ℕ → CollectedValue
with_one collected octets time frame = record {
  datagrams = collected.datagrams ++ octets ∷ [];
  times = collected.times ++ time ∷ [];
  frames = collected.frames ++ frame ∷ [];
}

-- where none was collected at first, these were
abbrev pub HasTaken : CollectedValue → List course.DatagramValue → CollectedValue → Type 0
HasTaken start datagrams collected = start ≡ collected_of [] → collected ≡ collected_of datagrams
