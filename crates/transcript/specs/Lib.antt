pub mod Appended
pub mod Laws
