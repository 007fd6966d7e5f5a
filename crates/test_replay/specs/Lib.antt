pub mod List
pub mod Tally
pub mod Report
