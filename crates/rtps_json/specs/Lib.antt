pub mod AddressMembers
pub mod CheckMembers
pub mod DiscoveryMembers
pub mod EndMembers
pub mod EventMembers
pub mod JsonText
pub mod TalkMembers
pub mod Values
