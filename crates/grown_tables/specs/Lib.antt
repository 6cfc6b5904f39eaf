pub mod First
pub mod Ready
pub mod Full
