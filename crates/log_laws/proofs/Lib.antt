pub use Rattle.log_page.proofs as log_page
pub mod Standing
pub mod Behind
pub mod Ringing
pub mod Logs
pub mod Greatest
pub mod Fresh
