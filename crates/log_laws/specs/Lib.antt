pub use Rattle.log_page.specs as log_page
pub mod Tables
pub mod NextLaps
