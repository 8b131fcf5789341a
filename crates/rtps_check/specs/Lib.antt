pub mod ArrivedText
pub mod CheckText
pub mod DiscoveryText
pub mod TalkText
