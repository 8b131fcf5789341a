pub mod FaultText
pub mod Flags
pub mod Held
pub mod Spelling
pub mod Writable
pub mod Written
pub mod WrittenBodies
