pub mod PlaceLemmas
pub mod TakingLemmas
pub mod BeginLemmas
pub mod KeptLemmas
pub mod ComparisonLemmas
