-- Lemmas about the definitions of this crate, for the crates above it: acts as values, and that acts without fragments tell nothing.
pub use Rattle.rtps_fragments.proofs.HearingLemmas.{no_piece}
pub use Rattle.rtps_fragments.proofs.PlainPairs.{as_sent}
pub use Rattle.rtps_fragments.proofs.SampleCountLemmas.{values_more}
