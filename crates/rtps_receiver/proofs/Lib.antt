pub mod ActSteps
pub mod NumbersLemmas
pub mod SpeechTests
pub mod ItemLaws
pub mod Offered
