pub mod Faults
pub mod Walks
pub mod Edits
pub mod Spelling
pub mod EditLaws
pub mod Roots
pub mod RootLaws
