mod FieldsFound
mod GuidLemmas
pub mod HostLemmas
mod Members
mod NamingLemmas
mod OneWayLemmas
mod PatternLemmas
mod ReasonLemmas
pub mod SegmentLemmas
mod SilenceLemmas
mod Slices
mod Sorted
mod SuitLemmas
mod TableLemmas
mod TextLemmas
mod TopicLemmas
mod UnmatchedLaws
pub mod UnmatchedLemmas
mod UnmatchedOrder
mod WritingLemmas
