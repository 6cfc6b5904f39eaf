pub use Rattle.disk_model.proofs as disk_model
pub use Rattle.log_page.proofs as log_page
pub use Rattle.log_page.proofs.log_model
pub mod Ahead
pub mod Bytes
pub mod Said
pub mod Paging
pub mod Walks
pub mod FrontRuns
pub mod PageRows
pub mod SharedSectors
pub mod RingPlaces
