mod CheckLemmas
mod EventLemmas
mod JsonLemmas
pub mod Offered
mod OneMembers
mod SecondLemmas
mod TalkLemmas
pub mod ValueLemmas
