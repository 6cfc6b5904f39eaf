mod Steps
mod Opened
mod Recorded
mod Looked
mod Journaled
mod Changed
mod Mounted
