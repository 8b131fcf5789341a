-- Lemmas about the definitions of this crate, for the crates above it: lists and their members, the order of GUIDs, maps of no acts.
pub use Rattle.rtps_discovery.proofs.Listing.{filter-map}
pub use Rattle.rtps_discovery.proofs.GuidLaws.{exact_guids, guids_total}
pub use Rattle.rtps_discovery.proofs.Members.{from_filter, from_map, into_filter, into_map, nothing_in_nil}
pub use Rattle.rtps_discovery.proofs.MapLaws.{no_acts}
pub use Rattle.rtps_discovery.proofs.OtherWriters.{of_another_kind}
