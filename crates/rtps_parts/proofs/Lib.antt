pub mod CommaLemmas
mod RosLemmas
