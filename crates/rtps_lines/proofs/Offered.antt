-- Lemmas for the crates above: lists to which parts are appended; the lost numbers of a row.
pub use Rattle.rtps_lines.proofs.LostLemmas.{found, not_found}
pub use Rattle.rtps_lines.proofs.PartLemmas.{two_parts, three_parts, four_parts, five_parts, six_parts, seven_parts, eight_parts, item_more}
