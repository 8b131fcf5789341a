-- Lemmas about the definitions of this crate, for the crates above it: how many numbers have something, and what a stretch
-- more has.
pub use Rattle.rtps_coverage.proofs.CountLemmas.{count_all, count_none, count_others, count_rest, count_same, count_split}
pub use Rattle.rtps_coverage.proofs.StretchLemmas.{has_one_more}
