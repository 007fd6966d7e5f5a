pub mod Reading
pub mod Lines
pub mod Reports
