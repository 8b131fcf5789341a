pub mod Layout
pub mod NumberSet
pub mod Octets
pub mod Ranges
pub mod SetFaultText
