pub mod DataChanges
mod Reading
mod Ending
mod Leading
mod Asking
