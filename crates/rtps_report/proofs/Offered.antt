-- Lemmas for the crates above: what few acts announce is what all do, what tells the same of who does not talk is the same, an audit
-- stays where fragments are none, and lists are sorted in one way.
pub use Rattle.rtps_report.proofs.OneTalkLemmas.{same_talk}
pub use Rattle.rtps_report.proofs.OrderLemmas.{sorted_once, sorted_same}
pub use Rattle.rtps_report.proofs.SortLemmas.{sorted_values, stable_values}
pub use Rattle.rtps_report.proofs.StayLemmas.{choosing, explained_same, report_same}
pub use Rattle.rtps_report.proofs.TalkLemmas.{acts_behind, says_nothing, told_alone}
