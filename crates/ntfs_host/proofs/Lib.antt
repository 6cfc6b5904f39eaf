pub mod Answering
pub mod Losses
pub mod Uncalled
pub mod Telling
pub mod Running
pub mod Scripted
pub mod Timely
