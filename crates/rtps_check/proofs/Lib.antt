mod AppendLemmas
mod ArrivedLemmas
mod DiscoveryLemmas
mod EndLemmas
mod OneWayLemmas
mod UnmatchedLemmas
