pub mod Recovering
pub mod Passing
pub mod EntryRead
pub mod EntryTables
pub mod EntrySpelled
pub mod Shadowing
pub mod Telling
pub mod Origins
