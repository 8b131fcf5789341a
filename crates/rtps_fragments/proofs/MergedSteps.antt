-- The acts of a datagram and the samples that they tell, one act after another.
use Rattle.std.proofs.Common.{◌≡◌, ℕ, ◌+◌, List, [], ◌∷◌, ◌++◌, drop, Some, slice_get, append_assoc, rules}
use Rattle.rtps_receiver.specs.Values as values
use Rattle.rtps_fragments.specs.Merging as merging
use Rattle.rtps_fragments.specs.ToldSamples as told_samples
use Rattle.rtps_fragments.proofs.ToldSoFar.{drop_at}

-- one act more, with the samples that it tells
pub merge_step : (acts : List values.ActValue) (place : ℕ) (act : values.ActValue) (rest run behind : List told_samples.ToldValue) (out all : List values.ActValue) → slice_get acts place ≡ Some act → merging.run_of place rest ≡ run → merging.run_past place rest ≡ behind
    → out ++ merging.merged_from place (drop place acts) rest ≡ all → ((out ++ act ∷ []) ++ merging.acts_told act act.body run) ++ merging.merged_from (place + 1) (drop (place + 1) acts) behind ≡ all
merge_step acts place act rest run behind out all at run_is behind_is so = search (rules, append_assoc, drop_at)
