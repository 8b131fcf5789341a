-- How many samples acts tell those who hear them. DDSI-RTPS 2.5, 8.3.8.3 "DataFrag". own: where it is shown that a sample is complete, what is in
-- it does not count. An act tells two samples at most: one, and where a fragment came with other octets a second one.
use Rattle.std.specs.Prelude.{ℕ, List, [], ◌∷◌, ◌++◌, length, map}
use Rattle.rtps_ids.specs.declared.identity.Guid.{Guid}
use Rattle.rtps_audit.specs.Placed as placed
use Rattle.rtps_fragments.specs.Hearing as hearing
use Rattle.rtps_fragments.specs.SampleActs as sample_acts
use Rattle.rtps_fragments.specs.declared.sample_counts.SampleCount.{SampleCount}

-- a count as a number
abbrev pub number_of : SampleCount → ℕ
number_of SampleCount.Zero = 0
number_of SampleCount.One = 1
number_of SampleCount.Two = 2

-- these acts, each with its piece
abbrev pub with_pieces : List placed.PlacedValue → List sample_acts.PieceAct
with_pieces acts = map (λ one. hearing.with_piece one.act) acts

-- how many samples an act tells a reader behind others: those that the reader can put together by it, and could not before
abbrev pub samples_at : Guid → List placed.PlacedValue → placed.PlacedValue → ℕ
samples_at reader before one = length (sample_acts.samples_told reader (with_pieces before) one.act (hearing.piece_in one.act.body))

-- how many it tells one who hears the fragments for everyone
abbrev pub overheard_at : List placed.PlacedValue → placed.PlacedValue → ℕ
overheard_at before one = samples_at hearing.nobody (map hearing.for_everyone before) (hearing.for_everyone one)

-- how many each of some acts tells, behind others
abbrev pub counts_behind : (List placed.PlacedValue → placed.PlacedValue → ℕ) → List placed.PlacedValue → List placed.PlacedValue → List ℕ
counts_behind count before [] = []
counts_behind count before (one ∷ acts) = count before one ∷ counts_behind count (before ++ one ∷ []) acts
