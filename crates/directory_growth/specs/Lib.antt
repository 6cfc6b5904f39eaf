pub mod Clusters
pub mod Growing
pub mod Bitmap
pub mod Laws
