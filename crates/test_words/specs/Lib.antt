pub mod Records
pub mod Rooms
pub mod Counts
