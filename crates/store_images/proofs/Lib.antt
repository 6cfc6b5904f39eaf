mod Calls
mod Beside
mod Rooms
