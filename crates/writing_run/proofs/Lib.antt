mod Starting
mod Closing
mod Outcomes
