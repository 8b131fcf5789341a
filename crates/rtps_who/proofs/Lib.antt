mod DigitLemmas
mod IdLemmas
mod ItemLemmas
mod ListingLemmas
mod NameLemmas
pub mod Offered
mod SampleLemmas
mod Slices
mod TableLemmas
mod TextLemmas
mod ToldLemmas
