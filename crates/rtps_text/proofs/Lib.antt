mod DigitLemmas
mod ListLemmas
mod ShowLemmas
