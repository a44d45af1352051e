pub mod Turns
pub mod Whether
pub mod Decisions
pub mod Conditions
