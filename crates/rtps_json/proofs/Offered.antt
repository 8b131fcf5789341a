-- Lemmas for the crates above: tokens and depth of what is made of members; one object of JSON.
pub use Rattle.rtps_json.proofs.CheckLemmas.{check_depth, check_within}
pub use Rattle.rtps_json.proofs.JsonLemmas.{front, joined, mapped_tokens, object_tokens, report_depth, report_within, rows_depth, timed_within, whole}
pub use Rattle.rtps_json.proofs.OneMembers.{same_members}
pub use Rattle.rtps_json.proofs.ValueLemmas.{one_more}
