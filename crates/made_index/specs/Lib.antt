pub mod Made
pub mod Growing
pub mod Laws
