mod Lexing
mod Rows
mod Turns
mod Steps
mod Ends
