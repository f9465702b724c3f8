pub mod Written
-- Lemmas of the crates below that callers' proofs cite.
pub use Rattle.wkt_num.proofs.SinkCalls
pub use Rattle.wkt_access.proofs.Collections
pub use Rattle.wkt_write.proofs.Members
pub use Rattle.wkt_types.proofs.Displays
pub use Rattle.wkt_read.proofs.OnePlacing
pub use Rattle.wkt_sources.proofs.ByteViews
pub use Rattle.wkt_sources.proofs.FrontValues
pub mod Texts
