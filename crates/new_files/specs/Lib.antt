pub mod NewFiles
pub mod Laws
