pub mod Survey
pub mod Judging
pub mod Comparison
