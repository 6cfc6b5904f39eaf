pub mod BootSectors
pub mod BootLaws
