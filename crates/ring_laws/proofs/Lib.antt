pub use Rattle.log_laws.proofs as log_laws
pub use Rattle.log_laws.proofs.log_page
pub use Rattle.store_model.proofs.fixup_record
pub use Rattle.store_model.proofs.log_model
pub mod Numbering
pub mod LogSectors
pub mod Mixing
pub mod RingFacts
pub mod RingWrites
pub mod RingCalls
pub mod RingReads
pub mod RestartFacts
pub mod RestartWrites
pub mod RestartCalls
pub mod StoreImages
pub mod StoreEvents
pub mod SeenDisks
pub mod StoreRecovers
