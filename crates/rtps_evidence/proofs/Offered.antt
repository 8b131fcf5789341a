-- Lemmas about the definitions of this crate, for the crates above it: one map, one extent, acts in the order of their places.
pub use Rattle.rtps_evidence.proofs.OneSpan.{HasOneMap, one_extent}
pub use Rattle.rtps_evidence.proofs.ActOrder.{After, Each, From, Rise, behind_next, item_places, items_rise, later_next, order_from, rise_later}
