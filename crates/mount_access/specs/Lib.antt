pub mod Mounts
pub mod Laws
