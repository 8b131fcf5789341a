pub mod Acts
pub mod Audience
pub mod Destination
pub mod Speech
pub mod Values
pub mod Laws
pub mod Said
