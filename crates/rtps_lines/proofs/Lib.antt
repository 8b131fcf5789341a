pub mod Offered
mod PartLemmas
mod JoinLemmas
mod LostLemmas
mod NoteLemmas
mod TailLemmas
