pub mod Line
pub mod Sources
pub mod Taking
